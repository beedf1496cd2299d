use Rattle.std.proofs.Common.{◌≡◌, ℕ, ◌≤◌, List, [], length, get_or, refl, arith}
use Rattle.std.specs.Borrow.{Bor}
use Rattle.std.proofs.lemmas.Bool.{false≢true}
use Rattle.sea_script.proofs.Rows.{all_mapped, all_taken, mapped_at}
use Rattle.sea_script.proofs.Spelling.{none_left}
use Rattle.sea_script.proofs.text.none_is_empty.Goals as goal

pub returns-then-is_empty : goal.returns-then-is_empty
returns-then-is_empty c =
    let d : Bor (List ℕ) = record { ref_ptr = (0, 0); now = [] } in
    let word = (get_or c.args.of.now c.loop-word.word-index d).now in
    let none : length word ≡ 0 = none_left word c.if-is_empty.ensures in (
      λ t. absurd (false≢true t),
      λ all. let some : 1 ≤ length word = mapped_at (λ (w : Bor (List ℕ)). w.now) (λ w. 1 ≤ length w) c.args.of.now c.loop-word.word-index d all c.loop-word-test.true in absurd (omega (arith, none, some)),
    )

pub returns : goal.returns
returns c =
    (λ t. all_mapped (λ (w : Bor (List ℕ)). w.now) (λ w. 1 ≤ length w) c.args.of.now (all_taken (λ (w : Bor (List ℕ)). 1 ≤ length w.now) c.args.of.now c.loop-word.word-index c.loop-word-test.false c.loop-word.invariant), λ all. refl)
