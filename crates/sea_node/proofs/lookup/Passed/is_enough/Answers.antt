use Rattle.std.proofs.Common.{◌≡◌, ◌≤◌, length, Some, refl, sym, ap, subst, ◌∙◌, arith}
use Rattle.std.proofs.lemmas.Bool.{false≢true}
use Rattle.std.proofs.lemmas.Slice.Eq.{bytes_eq-Decides}
use Rattle.sea_node.specs.Reading.{key_in}
use Rattle.sea_node.specs.Lookup.{EndsAt}
use Rattle.sea_node.proofs.Lookups.{one_alone, several, some_there}
use Rattle.sea_node.proofs.lookup.Passed.is_enough.Goals as goal
use Rattle.sea_node.proofs.lookup.Passed.is_enough.Goals.{else-level-gt0-via-then-level-gt0+else-eq, else-level-gt0-via-else-level-gt0}

pub returns-then-eq : goal.returns-then-eq
returns-then-eq c = λ key es rising passes.
    let bytes = c.args.bytes.now in
    let start = key_in bytes c.args.self.now.first in
    let end = key_in bytes c.args.self.now.last in
    let same : start ≡ end = (bytes_eq-Decides start end).0 (sym c.eq.ensures ∙ c.if-eq.true) in
    (λ no. absurd (false≢true no), λ enough. absurd (one_alone es start rising passes.first_is (subst (EndsAt es) (ap Some (sym same)) passes.last_is) (enough.1 c.if-level-gt0.true)))

pub returns : goal.returns
returns c = λ key es rising passes.
    let bytes = c.args.bytes.now in
    let start = key_in bytes c.args.self.now.first in
    let end = key_in bytes c.args.self.now.last in
    let enough : 1 ≤ c.args.level → 2 ≤ length es =
    elim c.else-level-gt0.branch [
      | else-level-gt0-via-then-level-gt0+else-eq w ↦ λ above. several es start end passes.first_is passes.last_is (λ same. false≢true (sym w.if-eq.false ∙ w.eq.ensures ∙ (bytes_eq-Decides start end).1 same))
      | else-level-gt0-via-else-level-gt0 w ↦ λ above. absurd (omega (arith, above, w.if-level-gt0.false))
    ] in
    (λ yes. (some_there es start passes.first_is, enough), λ _. refl)
