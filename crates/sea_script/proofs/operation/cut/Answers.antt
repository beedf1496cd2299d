use Rattle.std.proofs.Common.{ℕ, ◌+◌, ◌-◌, List, [], ◌∷◌, length, take, drop, ap, sym, ◌∙◌}
use Rattle.std.specs.Prelude.{map}
use Rattle.std.specs.Borrow.{Bor}
use Rattle.sea_script.specs.Reading.{seen}
use Rattle.sea_script.specs.Script.{is_mark}
use Rattle.sea_script.proofs.Splits.{cut_at, parts_seen, uncut}
use Rattle.sea_script.proofs.operation.cut.Goals as goal

pub returns-in-None : goal.returns-in-None
returns-in-None c =
    parts_seen c.args.words.now ∙ ap (map seen) (uncut (λ (w : Bor (List ℕ)). is_mark w.now) c.args.words.now (sym c.in-None.ensures))

pub returns-in-Some : goal.returns-in-Some
returns-in-Some c =
    let d : Bor (List ℕ) = record { ref_ptr = (0, 0); now = [] } in
    parts_seen c.args.words.now ∙ ap (map seen) (cut_at (λ (w : Bor (List ℕ)). is_mark w.now) c.args.words.now d c.in-Some.end (sym c.in-Some.ensures)) ∙ ap (λ ps. seen (take c.in-Some.end c.args.words.now) ∷ ps) (sym (parts_seen (take (length c.args.words.now - (c.in-Some.end + 1)) (drop (c.in-Some.end + 1) c.args.words.now))))
