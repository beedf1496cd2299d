use Rattle.std.proofs.Common.{◌≡◌, ◌≤◌, ◌∙◌, List, true, Option, length, refl, ap, sym, subst, arith}
use Rattle.std.proofs.lemmas.Result.{on_ok_weaker}
use Rattle.sea_node.specs.Entries.{Entry, edited, entry_put}
use Rattle.sea_node.specs.Node.{IsNode}
use Rattle.sea_tree.specs.declared.edit.Edit.{Edit}
use Rattle.sea_tree.specs.declared.splice.Splice.{Splice}
use Rattle.sea_tree.specs.Does.{is_among}
use Rattle.sea_tree.specs.Plan.{changes_of, spliced_before, plan_changes}
use Rattle.sea_tree.specs.Mending.{after_edit}
use Rattle.sea_tree.proofs.Performing.{put_small, kept_whole, kept_spliced}
use Rattle.sea_tree.proofs.plan.plan_edit.Goals as goal

pub invariant_of-t-31 : goal.invariant_of-t-31
invariant_of-t-31 c =
    let es : List Entry = c.args.node.now.entries in
    let node : IsNode c.args.edited.now.level (edited c.in-Pair.key c.in-Pair.value es) = subst (IsNode c.args.edited.now.level) (c.requires.edit ∙ ap (λ (e : Edit). after_edit e c.args.node.now.entries) c.in-Pair.is) c.requires.edited in
    let small : length (entry_put c.in-Pair.key c.in-Pair.value) ≤ 1091 = put_small c.args.edited.now.level c.in-Pair.key c.in-Pair.value es c.requires.node.rising node in
    let put : c.in_ok-delta.delta.put ≡ entry_put c.in-Pair.key c.in-Pair.value = c.in_ok-delta.ensures.put ∙ ap (entry_put c.in-Pair.key) c.as_ref.ensures.value in
    record { fits = c.in_ok-delta.ensures.fits; small = omega (arith, small, ap length put) }

pub returns-in_default-clause-kept : goal.returns-in_default-clause-kept
returns-in_default-clause-kept c =
    on_ok_weaker c.plan_node.result
    (λ planned. kept_whole c.args.at.0 c.args.node.now.entries c.args.edit (plan_changes c.args.plan.now) c.args.plan.now.splice c.requires.first (λ key value is. absurd (let clash = sym c.in_default.is ∙ is in cc)))
    c.plan_node.ensures.planned

pub returns-then-is_planned-clause-kept : goal.returns-then-is_planned-clause-kept
returns-then-is_planned-clause-kept c =
    let among : is_among (changes_of c.args.plan.now.writes) c.args.at.0 ≡ true = sym c.is_planned.ensures ∙ c.if-is_planned.true in
    on_ok_weaker c.plan_node-then-is_planned.result
    (λ planned. kept_whole c.args.at.0 c.args.node.now.entries c.args.edit (plan_changes c.args.plan.now) c.args.plan.now.splice c.requires.first
    (λ key value is. subst (λ (o : Option Splice). is_among (spliced_before o (changes_of c.args.plan.now.writes)) c.args.at.0 ≡ true) (sym c.requires.first) among))
    c.plan_node-then-is_planned.ensures.planned

pub returns-clause-kept : goal.returns-clause-kept
returns-clause-kept c =
    kept_spliced c.args.at.0 c.args.node.now.entries c.args.edit c.in-Pair.key c.in-Pair.value (plan_changes c.args.plan.now) _ c.in-Pair.is (record {
      here = refl;
      cut = c.in_ok-delta.ensures.cut;
      gone = c.in_ok-delta.ensures.gone;
      put = c.in_ok-delta.ensures.put ∙ ap (entry_put c.in-Pair.key) c.as_ref.ensures.value;
    })
