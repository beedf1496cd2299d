use Rattle.std.proofs.Common.{◌≡◌, ◌<◌, Bool, cond, length, arith, ap, ◌∙◌}
use Rattle.std.proofs.lemmas.List.{get_or_read}
use mir.Val.{bool_byte}
use Rattle.sea_segment.specs.declared.state.Segment.{Segment}
use Rattle.sea_segment.specs.State.{is_empty}
use Rattle.sea_segment.specs.Table.{fresh, state_of}
use Rattle.sea_segment.proofs.Counts.{recounted, byte_of}
use Rattle.sea_segment.proofs.table.Table.set.Goals as goal

pub overflow_add-self : goal.overflow_add-self
overflow_add-self c =
    let table = c.self.inside.segments.items in
    let within : c.args.segment < length table = omega (arith, c.requires, ap (length {A = Segment}) c.self.view_is) in
    let of = recounted table c.args.segment c.args.state within in
    let old = get_or_read table c.args.segment c.index-old.result.now within c.index-old.ensures fresh in
    let was : bool_byte c.is_empty.result ≡ cond (is_empty (state_of table c.args.segment)) 1 0 =
    byte_of c.is_empty.result ∙ ap (λ (b : Bool). cond b 1 0) (c.is_empty.ensures ∙ ap (λ (s : Segment). is_empty s.state) old) in
    let now : bool_byte c.is_empty-2.result ≡ cond (is_empty c.args.state) 1 0 = byte_of c.is_empty-2.result ∙ ap (λ (b : Bool). cond b 1 0) c.is_empty-2.ensures in
    omega (arith, of.sum, of.some, of.few, was, now)
