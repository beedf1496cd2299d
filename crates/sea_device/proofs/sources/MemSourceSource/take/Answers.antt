use Rattle.std.proofs.Common.{◌≡◌, ◌≤◌, List, ◌++◌, ℕ, length, take, drop, sym, ◌∙◌, ap, arith}
use Rattle.std.proofs.lemmas.List.{drop-append-le, take-append-drop}
use Rattle.sea_device.proofs.sources.MemSourceSource.take.Goals as goal

-- bytes behind the first n stay, where they stay in the part that is handed over
stays : (n most : ℕ) (into new : List ℕ) → n ≤ length new → n ≤ length (take most into) → drop n new ≡ drop n (take most into) → drop n (new ++ drop most into) ≡ drop n into
stays n most into new fits within same =
    drop-append-le n new (drop most into) fits ∙ ap (λ b. b ++ drop most into) same ∙ sym (drop-append-le n (take most into) (drop most into) within) ∙ ap (drop n) (take-append-drop most into)

pub returns-clause-rest : goal.returns-clause-rest
returns-clause-rest c =
    stays c.give.result c.min-most.result c.args.into.now c.give.new.into (omega (arith, c.give.ensures.count, c.give.auto.into)) (omega (arith, c.give.ensures.count)) c.give.ensures.rest
