use Rattle.std.proofs.Common.{rules, ◌%◌, ℕ, List, Some, None, get_or, ap, ◌∙◌}
use Rattle.sea_formed.specs.Blocks.{store_of}
use Rattle.sea_formed.proofs.Gathered.{byte_there}
use Rattle.sea_formed.proofs.object.byte_of.Goals as goal

pub returns-in-Some : goal.returns-in-Some
returns-in-Some c =
    ap (λ (bytes : List ℕ). get_or bytes (c.args.index % 4096) 0) c.bytes.ensures.bytes ∙ byte_there (store_of c.args.blocks.now) c.args.base c.args.index (Some c.in-Some.block.now) c.requires.base c.requires.index (search rules)

pub returns-in-None : goal.returns-in-None
returns-in-None c = byte_there (store_of c.args.blocks.now) c.args.base c.args.index None c.requires.base c.requires.index (search rules)
