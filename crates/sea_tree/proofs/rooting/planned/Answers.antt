use Rattle.std.proofs.Common.{◌≡◌, suc, length, reverse, Some, None, true, false, ◌==◌, sym, ap, subst, ◌∙◌, refl, arith, add-one}
use Rattle.std.specs.Option.{option_copied}
use Rattle.std.proofs.lemmas.Bool.{true≢false, eqb-true, eqb-false, eq-eqb, ne_eqb}
use Rattle.std.proofs.lemmas.List.{length_push}
use Rattle.std.proofs.lemmas.Iterator.Adapters.{YieldsList-from_rev_slice}
use Rattle.std.proofs.lemmas.Iterator.Consumers.{YieldsList-turn, YieldsList-end}
use Rattle.sea_tree.specs.Does.{Change}
use Rattle.sea_tree.specs.Plan.{change_of}
use Rattle.sea_tree.proofs.RootRebalances.{Passes, passes_more, planned_last, planned_absent}
use Rattle.sea_tree.proofs.rooting.planned.Goals as goal
use Rattle.sea_tree.proofs.rooting.planned.Goals.{in-Some-block+in_ok-share-in-Some-block, in-None-block}

pub loop-write-init : goal.loop-write-init
loop-write-init c = refl

pub returns-then-eq : goal.returns-then-eq
returns-then-eq c = λ store.
    let t = YieldsList-turn (YieldsList-from_rev_slice c.args.writes.now cc) c.loop-write.yielded _ c.loop-write.yielded_by _ _ c.in-Some.write c.in-Some.is c.next.ensures.steps in
    let told : (c.left_by.result.0.0 == c.args.at.0) ≡ true = cc in
    let here : (c.args.at.0 == (change_of c.in-Some.write.now).0) ≡ true = eq-eqb _ _ (sym (eqb-true _ _ told) ∙ ap (λ (change : Change). change.0) c.left_by.ensures) in
    let stands = planned_last c.args.at.0 store c.args.writes.now (length c.loop-write.yielded) c.in-Some.write.now t.0 t.1 here c.loop-write.invariant in
    let block : option_copied c.left_by.result.1 ≡ (change_of c.in-Some.write.now).1 = ap (λ (change : Change). change.1) c.left_by.ensures in
    elim c.match-block.branch [
      | in-Some-block+in_ok-share-in-Some-block w ↦
          let opened : option_copied c.left_by.result.1 ≡ Some w.in-Some-block.block.now = ap option_copied w.in-Some-block.is in
          w.result-is ∙ ap Some w.in_ok-share-in-Some-block.ensures ∙ sym opened ∙ block ∙ stands
      | in-None-block w ↦
          let opened : option_copied c.left_by.result.1 ≡ None = ap option_copied w.in-None-block.is in
          w.result-is ∙ sym opened ∙ block ∙ stands
    ]

pub loop-write-preserved : goal.loop-write-preserved
loop-write-preserved c =
    let t = YieldsList-turn (YieldsList-from_rev_slice c.args.writes.now cc) c.loop-write.yielded _ c.loop-write.yielded_by _ _ c.in-Some.write c.in-Some.is c.next.ensures.steps in
    let told : (c.left_by.result.0.0 == c.args.at.0) ≡ false = cc in
    let same : c.left_by.result.0.0 ≡ (change_of c.in-Some.write.now).0 = ap (λ (change : Change). change.0) c.left_by.ensures in
    let apart : (c.args.at.0 == (change_of c.in-Some.write.now).0) ≡ false = ne_eqb _ _ (λ e. eqb-false _ _ told (same ∙ sym e)) in
    let more : Passes c.args.at.0 (reverse c.args.writes.now) (suc (length c.loop-write.yielded)) = passes_more c.args.at.0 (reverse c.args.writes.now) (length c.loop-write.yielded) c.in-Some.write.now t.0 t.1 apart c.loop-write.invariant in
    subst (Passes c.args.at.0 (reverse c.args.writes.now)) (sym (length_push c.loop-write.yielded c.in-Some.write ∙ add-one (length c.loop-write.yielded))) more

pub returns : goal.returns
returns c = λ store.
    let t = YieldsList-end (YieldsList-from_rev_slice c.args.writes.now cc) c.loop-write.yielded _ c.loop-write.yielded_by _ _ c.in-None.is c.next.ensures.steps in
    let absent = planned_absent c.args.at.0 c.args.writes.now (length c.loop-write.yielded) (omega (arith, t.1)) c.loop-write.invariant in
    absurd (true≢false (sym c.requires ∙ absent))
