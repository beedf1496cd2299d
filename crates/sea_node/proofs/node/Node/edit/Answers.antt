use Rattle.std.proofs.Common.{◌+◌, List, ℕ, arith, ap, ◌∙◌}
use Rattle.std.specs.Option.{option_copied}
use Rattle.sea_base.specs.Splice.{spliced}
use Rattle.sea_node.specs.Node.{node_bytes}
use Rattle.sea_node.proofs.Edits.{value_fits, size_split, splice_fits, spliced-edited}
use Rattle.sea_node.proofs.node.Node.edit.Goals as goal

pub bytes_put-requires : goal.bytes_put-requires
bytes_put-requires c = value_fits c.args.key.now (option_copied c.args.value) c.args.self.now.entries c.requires.node.rising c.requires.edited.fits

pub overflow_add-result : goal.overflow_add-result
overflow_add-result c = omega (arith, size_split c.args.key.now c.args.self.now.entries c.requires.node.rising)

pub overflow_cast-result : goal.overflow_cast-result
overflow_cast-result c = omega (arith, size_split c.args.key.now c.args.self.now.entries c.requires.node.rising)

pub overflow_cast-result-2 : goal.overflow_cast-result-2
overflow_cast-result-2 c = omega (arith, size_split c.args.key.now c.args.self.now.entries c.requires.node.rising)

pub returns-clause-fits : goal.returns-clause-fits
returns-clause-fits c =
    let fits = splice_fits (32 + c.place-place.result.before) c.place-place.result.size c.args.key.now (option_copied c.args.value) c.args.self.now.entries
    c.requires.node.rising c.requires.node.fits c.requires.edited.fits (ap (λ (n : ℕ). 32 + n) c.place-place.ensures.before) c.place-place.ensures.size in
    rw c.in_ok-bytes_put.ensures fits

pub returns-clause-splice : goal.returns-clause-splice
returns-clause-splice c =
    ap (λ (put : List ℕ). spliced (32 + c.place-place.result.before) c.place-place.result.size put (node_bytes c.args.self.now.level c.args.self.now.entries)) c.in_ok-bytes_put.ensures
    ∙ spliced-edited c.args.self.now.level (32 + c.place-place.result.before) c.place-place.result.size c.args.key.now (option_copied c.args.value) c.args.self.now.entries
    c.requires.node.rising c.requires.edited.fits (ap (λ (n : ℕ). 32 + n) c.place-place.ensures.before) c.place-place.ensures.size
