use Rattle.std.proofs.Common.{◌≡◌, ℕ, ◌++◌, List, length, take, ap, ◌∙◌, arith}
use Rattle.std.specs.Prelude.{string_bytes}
use Rattle.std.specs.List.{flat_map}
use Rattle.std.proofs.lemmas.Result.{IfOk-weaker}
use Rattle.std.proofs.lemmas.List.{length-take}
use Rattle.sea_plain_script.specs.declared.history.Entry.{Entry}
use Rattle.sea_top.specs.Headline.{run_text}
use Rattle.sea_top.specs.Refusal.{ending_line}
use Rattle.sea_plain_script.specs.Render.{entry_line, end_line}
use Rattle.sea_top.proofs.print.print_run.Goals as goal

pub returns : goal.returns
returns g c =
    let run = c.args.run.now in
    let acknowledged = run.acknowledged in
    let items = c.items.result.now in
    let count : length (take acknowledged items) ≡ acknowledged = rw (length-take acknowledged items) (omega (arith, c.requires, ap length c.items.ensures)) in
    let same : flat_map entry_line (take acknowledged items) ++ end_line (length (take acknowledged items)) 0 ++ ending_line run.ending ≡ run_text run.history acknowledged run.ending =
    ap (λ (es : List Entry). flat_map entry_line (take acknowledged es) ++ end_line (length (take acknowledged items)) 0 ++ ending_line run.ending) c.items.ensures ∙ ap (λ (n : ℕ). flat_map entry_line (take acknowledged run.history) ++ end_line n 0 ++ ending_line run.ending) count in
    c.say.ensures (run_text run.history acknowledged) (IfOk-weaker c.run_text-text.result (λ t. string_bytes t ≡ flat_map entry_line (take acknowledged items) ++ end_line (length (take acknowledged items)) 0 ++ ending_line run.ending) (λ t. string_bytes t ≡ run_text run.history acknowledged run.ending) (λ t spelled. spelled ∙ same) c.run_text-text.ensures)
