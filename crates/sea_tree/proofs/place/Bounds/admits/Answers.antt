use Rattle.std.proofs.Common.{◌≤◌, ◌-◌, arith, List, length, get_or, sym, subst, ap, ◌∙◌}
use Rattle.std.proofs.lemmas.Slice.Eq.{bytes_eq-Decides}
use Rattle.sea_node.specs.Entries.{Entry, IsRising, size}
use Rattle.sea_node.proofs.Keys.{IsNotAbove-same}
use Rattle.sea_tree.specs.Tree.{IsInPlace, IsWithin}
use Rattle.sea_tree.specs.Place.{meant}
use Rattle.sea_tree.proofs.Splits.{is_le_from, from_is_le}
use Rattle.sea_tree.proofs.Places.{placed, last_within, first_within, first_same}
use Rattle.sea_tree.proofs.place.Bounds.admits.Goals as goal

pub returns-then-size_of-self : goal.returns-then-size_of-self
returns-then-size_of-self c = (
  (λ h. absurd (cc)),
  (λ place. absurd (let filled = place.filled in omega (arith, ap size c.items-entries.ensures))),
)

pub returns-then-not-is_below : goal.returns-then-not-is_below
returns-then-not-is_below c = (
  (λ h. absurd (cc)),
  (λ place.
      let same = c.items-entries.ensures in
      let last = last_within c.args.node.now.level (meant c.args.self.now) c.items-entries.result.now c.index-entries-0.result c.index-entries-entries.result (subst (λ (es : List Entry). 1 ≤ length es) (sym same) c.requires.some) (subst IsRising (sym same) c.requires.rising) (subst (IsInPlace c.args.node.now.level (meant c.args.self.now)) (sym same) place) in
      let told = c.is_below.ensures.1 (subst (IsWithin (get_or c.items-entries.result.now (length c.items-entries.result.now - 1) c.index-entries-entries.result).0) (sym c.as_ref.ensures.value) last) in
      let not = c.if-not-is_below.true in absurd (cc)),
)

pub returns-then-node-eq0 : goal.returns-then-node-eq0
returns-then-node-eq0 c =
    let same = c.items-entries.ensures in
    let some = subst (λ (es : List Entry). 1 ≤ length es) (sym same) c.requires.some in
    let rising = subst IsRising (sym same) c.requires.rising in
    let es = c.items-entries.result.now in
    let filled : c.args.self.now.least ≤ size es = omega (arith, c.size_of.ensures, c.if-size_of-self.false) in
    let below = subst (IsWithin (get_or es (length es - 1) c.index-entries-entries.result).0) c.as_ref.ensures.value (c.is_below.ensures.0 c.if-not-is_below.false) in (
      (λ h. subst (IsInPlace c.args.node.now.level (meant c.args.self.now)) same (placed c.args.node.now.level (meant c.args.self.now) es c.index-entries-0.result c.index-entries-entries.result some rising filled below (from_is_le _ (sym c.le.ensures ∙ h)) (λ above. absurd (let zero = c.if-node-eq0.true in omega arith)))),
      (λ place. c.le.ensures ∙ is_le_from _ (first_within c.args.node.now.level (meant c.args.self.now) es c.index-entries-0.result c.index-entries-entries.result some rising (subst (IsInPlace c.args.node.now.level (meant c.args.self.now)) (sym same) place))),
    )

pub returns-else-node-eq0 : goal.returns-else-node-eq0
returns-else-node-eq0 c =
    let same = c.items-entries.ensures in
    let some = subst (λ (es : List Entry). 1 ≤ length es) (sym same) c.requires.some in
    let rising = subst IsRising (sym same) c.requires.rising in
    let es = c.items-entries.result.now in
    let first = (get_or es 0 c.index-entries-0.result).0 in
    let filled : c.args.self.now.least ≤ size es = omega (arith, c.size_of.ensures, c.if-size_of-self.false) in
    let below = subst (IsWithin (get_or es (length es - 1) c.index-entries-entries.result).0) c.as_ref.ensures.value (c.is_below.ensures.0 c.if-not-is_below.false) in (
      (λ h.
          let equal = (bytes_eq-Decides c.args.self.now.lower first).0 (sym c.eq.ensures ∙ h) in
          subst (IsInPlace c.args.node.now.level (meant c.args.self.now)) same (placed c.args.node.now.level (meant c.args.self.now) es c.index-entries-0.result c.index-entries-entries.result some rising filled below (IsNotAbove-same c.args.self.now.lower first equal) (λ above. equal))),
      (λ place.
          let equal = first_same c.args.node.now.level (meant c.args.self.now) es c.index-entries-0.result c.index-entries-entries.result some rising (subst (IsInPlace c.args.node.now.level (meant c.args.self.now)) (sym same) place) (let not = c.if-node-eq0.false in omega arith) in
          c.eq.ensures ∙ (bytes_eq-Decides c.args.self.now.lower first).1 equal),
    )
