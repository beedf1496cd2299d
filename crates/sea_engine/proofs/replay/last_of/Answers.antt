use Rattle.std.proofs.Common.{◌≡◌, ◌+◌, [], ◌∷◌, ◌++◌, take, sym, ap, ◌∙◌}
use Rattle.std.proofs.lemmas.List.{take_more}
use Rattle.sea_record.specs.declared.record.Record.{Record}
use Rattle.sea_engine.specs.Replay.{last_number}
use Rattle.sea_engine.proofs.Rising.{last_push}
use Rattle.sea_engine.proofs.replay.last_of.Goals as goal

pub loop-record-preserved : goal.loop-record-preserved
loop-record-preserved c =
    let records = c.args.records.now in
    let i = c.loop-record.record-index in
    let this = c.record-item.result in
    let more : take (i + 1) records ≡ take i records ++ this ∷ [] = take_more records i this c.loop-record-test.true ∙ ap (λ (r : Record). take i records ++ r ∷ []) (sym c.record-item.is) in
    sym (ap (last_number 0) more ∙ last_push 0 (take i records) this)
