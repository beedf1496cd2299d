use Rattle.std.proofs.Common.{inl, ℕ, List, sym, ap, ◌∙◌, subst, Option}
use Rattle.std.proofs.lemmas.Result.{err_from_is_err_and}
use Rattle.sea_streams.specs.Streams.{IsReadOut, read_fault}
use Rattle.sea_streams.proofs.Streams.{read_whole, no_script_for}
use Rattle.sea_streams.proofs.reading.read_script.Goals as goal

pub returns-in_err-script-clause-only : goal.returns-in_err-script-clause-only
returns-in_err-script-clause-only g c bytes script is spells =
    let p = err_from_is_err_and c.from_residual-in_err-script.result c.from_residual-in_err-script.ensures.1 in
    let read = subst (λ (input : Option (List ℕ)). IsReadOut c.in_ok-bytes.bytes.items input (g.I.Source.remaining c.read_all.new.input)) is c.in_ok-bytes.ensures.bytes in
    let only = c.in_err-script.ensures.only script (rw c.deref.ensures.value (read_whole c.args.scheduled c.in_ok-bytes.bytes.items bytes _ script read spells)) in
    rw (p.1) (inl (p.2 ∙ ap read_fault only))

pub returns-in_err-script-clause-refused : goal.returns-in_err-script-clause-refused
returns-in_err-script-clause-refused g c =
    let p = err_from_is_err_and c.from_residual-in_err-script.result c.from_residual-in_err-script.ensures.1 in
    rw (p.1, p.2) (no_script_for c.args.scheduled c.in_ok-bytes.bytes.items (g.I.Source.remaining c.args.input.now) (g.I.Source.remaining c.read_all.new.input) c.in_err-script.field-0.0 (g.I.Source.faults c.args.input.now) (g.I.Source.faults c.read_all.new.input) c.in_ok-bytes.ensures.bytes (rw (sym c.deref.ensures.value) c.in_err-script.ensures.refused))

pub returns-clause-only : goal.returns-clause-only
returns-clause-only g c bytes script is spells =
    let read = subst (λ (input : Option (List ℕ)). IsReadOut c.in_ok-bytes.bytes.items input (g.I.Source.remaining c.read_all.new.input)) is c.in_ok-bytes.ensures.bytes in
    c.in_ok-script.ensures.only script (rw c.deref.ensures.value (read_whole c.args.scheduled c.in_ok-bytes.bytes.items bytes _ script read spells))
