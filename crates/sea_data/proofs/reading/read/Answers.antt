use Rattle.std.proofs.Common.{ℕ, ◌-◌, ap, ◌∙◌}
use Rattle.sea_base.specs.Space.{laid}
use Rattle.sea_data.specs.Bytes.{bytes_from}
use Rattle.sea_data.proofs.Bytes.{bytes_within}
use Rattle.sea_data.proofs.reading.read.Goals as goal

pub returns-clause-bytes : goal.returns-clause-bytes
returns-clause-bytes g c store agrees =
    c.in_ok-from_vec.ensures ∙ c.in_ok-bytes.ensures.bytes store agrees
    ∙ ap (λ (end : ℕ). bytes_from (laid (g.S.Space.seen c.args.space.now) store) c.args.onode.now.base.0 c.args.offset (end - c.args.offset)) c.min-end.ensures
    ∙ bytes_within (laid (g.S.Space.seen c.args.space.now) store) c.args.onode.now.base.0 c.args.onode.now.size c.args.offset c.args.length
