use Rattle.std.proofs.Common.{◌≡◌, ◌≤◌, length, take, sym, ap, subst, ◌∙◌}
use Rattle.sea_object.specs.Answer.{written}
use Rattle.sea_object.specs.Held.{Stored}
use Rattle.sea_object.proofs.Contents.{content_within}
use Rattle.sea_object.proofs.Results.{on_both}
use Rattle.sea_object.proofs.content.Content.write.Goals as goal

pub returns-then-offset-size-clause-ok : goal.returns-then-offset-size-clause-ok
returns-then-offset-size-clause-ok c =
    let long = subst (λ (s : Stored). s.size ≤ length s.bytes) c.self.view_is c.self.invariant.0 in
    let within = subst (λ (s : Stored). c.args.offset ≤ s.size) c.self.view_is c.if-offset-size.true in
    on_both c.overwrite.result (λ bytes size.
    ap (take c.overwrite.new.self.size) bytes
    ∙ content_within c.args.offset c.args.self.now.size c.overwrite.new.self.size c.args.source.now c.args.self.now.bytes within long size) c.overwrite.ensures.bytes c.overwrite.ensures.size
