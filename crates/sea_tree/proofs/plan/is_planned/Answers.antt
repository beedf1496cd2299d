use Rattle.std.proofs.Common.{◌≡◌, ◌==◌, List, true, false, ap, sym, subst, ◌∙◌, refl, arith, add-one}
use Rattle.std.proofs.lemmas.Bool.{eqb-true, eqb-false, eq-eqb, ne_eqb}
use Rattle.sea_tree.specs.declared.plan.Write.{Write}
use Rattle.sea_tree.specs.Plan.{change_of, changes_of}
use Rattle.sea_tree.specs.Does.{is_among}
use Rattle.sea_tree.proofs.RootRebalances.{Passes, passes_more, is_planned_found, is_planned_none}
use Rattle.sea_tree.proofs.plan.is_planned.Goals as goal

pub loop-write-init : goal.loop-write-init
loop-write-init c = refl

pub returns-then-eq : goal.returns-then-eq
returns-then-eq c =
    let told : (c.at.result.0 == c.args.at.0) ≡ true = cc in
    let here : (c.args.at.0 == (change_of c.write-item.result).0) ≡ true = eq-eqb _ _ (sym (eqb-true _ _ told) ∙ c.at.ensures) in
    sym (ap (λ (ws : List Write). is_among (changes_of ws) c.args.at.0) (sym c.items-write-items.ensures)
    ∙ is_planned_found c.args.at.0 c.items-write-items.result.now c.loop-write.write-index c.write-item.result (omega (arith, c.loop-write-test.true)) c.write-item.is here)

pub loop-write-preserved : goal.loop-write-preserved
loop-write-preserved c =
    let told : (c.at.result.0 == c.args.at.0) ≡ false = cc in
    let apart : (c.args.at.0 == (change_of c.write-item.result).0) ≡ false = ne_eqb _ _ (λ e. eqb-false _ _ told (c.at.ensures ∙ sym e)) in
    subst (Passes c.args.at.0 c.items-write-items.result.now) (sym (add-one c.loop-write.write-index))
    (passes_more c.args.at.0 c.items-write-items.result.now c.loop-write.write-index c.write-item.result (omega (arith, c.loop-write-test.true)) c.write-item.is apart c.loop-write.invariant)

pub returns : goal.returns
returns c =
    sym (ap (λ (ws : List Write). is_among (changes_of ws) c.args.at.0) (sym c.items-write-items.ensures)
    ∙ is_planned_none c.args.at.0 c.items-write-items.result.now c.loop-write.write-index (omega (arith, c.loop-write-test.false)) c.loop-write.invariant)
