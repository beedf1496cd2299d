use Rattle.std.proofs.Common.{◌≤◌, arith, sym, ◌∙◌, get_or, [], rules}
use Rattle.std.proofs.lemmas.Slice.Eq.{bytes_eq-Decides}
use Rattle.sea_node.specs.Entries.{size}
use Rattle.sea_formed.specs.Place.{meant}
use Rattle.sea_formed.proofs.Placed.{placed, placed_within, placed_first}
use Rattle.sea_formed.proofs.place.Bounds.admits.Goals as goal

pub returns-then-not-are_within : goal.returns-then-not-are_within
returns-then-not-are_within c = (
  (λ h. absurd (cc)),
  (λ place.
      let told = c.are_within.ensures.1 (placed_within c.args.node.now.level (meant c.args.self.now) c.args.node.now.entries _ _ c.items-entries.ensures c.as_ref.ensures.value c.requires.some place) in
      let not = c.if-not-are_within.true in absurd (cc)),
)

pub returns-then-node-eq0 : goal.returns-then-node-eq0
returns-then-node-eq0 c =
    let filled : c.args.self.now.least ≤ size c.items-entries.result.now = omega (arith, c.bytes_of.ensures, c.if-bytes_of-self.false) in (
      (λ h. placed c.args.node.now.level (meant c.args.self.now) c.args.node.now.entries _ _ c.items-entries.ensures c.as_ref.ensures.value c.requires.some filled (c.are_from.ensures.0 c.if-not-are_from.false) (c.are_within.ensures.0 c.if-not-are_within.false) ([], []) (λ above. absurd (let zero = c.if-node-eq0.true in omega arith))),
      (λ place. search rules),
    )

pub returns-else-node-eq0 : goal.returns-else-node-eq0
returns-else-node-eq0 c =
    let filled : c.args.self.now.least ≤ size c.items-entries.result.now = omega (arith, c.bytes_of.ensures, c.if-bytes_of-self.false) in
    let first = (get_or c.items-entries.result.now 0 c.index-entries-0.result).0 in (
      (λ h.
          let equal = (bytes_eq-Decides c.args.self.now.lower first).0 (sym c.eq.ensures ∙ h) in
          placed c.args.node.now.level (meant c.args.self.now) c.args.node.now.entries _ _ c.items-entries.ensures c.as_ref.ensures.value c.requires.some filled (c.are_from.ensures.0 c.if-not-are_from.false) (c.are_within.ensures.0 c.if-not-are_within.false) c.index-entries-0.result (λ above. equal)),
      (λ place.
          let equal = placed_first c.args.node.now.level (meant c.args.self.now) c.args.node.now.entries _ _ c.items-entries.ensures c.as_ref.ensures.value c.requires.some place c.index-entries-0.result (let not = c.if-node-eq0.false in omega arith) in
          c.eq.ensures ∙ (bytes_eq-Decides c.args.self.now.lower first).1 equal),
    )
