use Rattle.std.proofs.Common.{◌≤◌, arith, sym, subst, ◌∙◌}
use Rattle.std.proofs.lemmas.Slice.Eq.{bytes_eq-Decides}
use Rattle.sea_node.specs.Entries.{size}
use Rattle.sea_node.proofs.Keys.{IsNotAbove-same}
use Rattle.sea_tree.specs.Tree.{IsWithin}
use Rattle.sea_tree.specs.Place.{meant}
use Rattle.sea_tree.proofs.Splits.{is_le_from, from_is_le}
use Rattle.sea_tree.proofs.Lookups.{placed_by, placed_above, placed_at}
use Rattle.sea_tree.proofs.lookup.admits.Goals as goal

pub returns-then-lookup-eq0 : goal.returns-then-lookup-eq0
returns-then-lookup-eq0 c = λ key es node tells.
    let lookup = c.args.lookup.now in
    let b = meant c.args.bounds.now in
    let filled : b.least ≤ size es = omega (arith, tells.size_is, c.if-lookup-bounds.false) in
    let below = subst (IsWithin lookup.last) c.as_ref.ensures.value (c.is_below.ensures.0 c.if-not-is_below.false) in (
      (λ h. placed_by lookup.level b es key lookup node tells filled below (from_is_le _ (sym c.le.ensures ∙ h)) (λ above. absurd (let zero = c.if-lookup-eq0.true in omega arith))),
      (λ place. c.le.ensures ∙ is_le_from _ (placed_above lookup.level b es key lookup node tells place)),
    )

pub returns-else-lookup-eq0 : goal.returns-else-lookup-eq0
returns-else-lookup-eq0 c = λ key es node tells.
    let lookup = c.args.lookup.now in
    let b = meant c.args.bounds.now in
    let filled : b.least ≤ size es = omega (arith, tells.size_is, c.if-lookup-bounds.false) in
    let below = subst (IsWithin lookup.last) c.as_ref.ensures.value (c.is_below.ensures.0 c.if-not-is_below.false) in (
      (λ h.
          let equal = (bytes_eq-Decides b.lower lookup.first).0 (sym c.eq.ensures ∙ h) in
          placed_by lookup.level b es key lookup node tells filled below (IsNotAbove-same b.lower lookup.first equal) (λ above. equal)),
      (λ place. c.eq.ensures ∙ (bytes_eq-Decides b.lower lookup.first).1 (placed_at lookup.level b es key lookup node tells place (let not = c.if-lookup-eq0.false in omega arith))),
    )
