use Rattle.std.proofs.Common.{◌≡◌, ◌+◌, ◌++◌, ◌∷◌, [], List, length, refl, sym, ap, ◌∙◌, ◌<◌, subst, arith, length-append, append_assoc}
use Rattle.std.specs.Prelude.{slice_get, Some}
use Rattle.std.proofs.lemmas.List.{append-nil}
use Rattle.std.proofs.lemmas.Option.{slice_get_read}
use Rattle.std.proofs.lemmas.Grind.{flat_map-append}
use Rattle.sea_plain.specs.Objects.{ObjectMap}
use Rattle.sea_plain_script.specs.declared.history.Entry.{Entry}
use Rattle.sea_top.specs.declared.record.Piece.{Piece}
use Rattle.sea_top.specs.declared.record.PlainRecord.{PlainRecord}
use Rattle.sea_top.specs.Trail.{after_pieces, pieces_of}
use Rattle.sea_top.specs.History.{Legal}
use Rattle.sea_top.proofs.AskedPieces.{after_pieces-append}
use Rattle.sea_top.proofs.Histories.{next_request, none_served, one_served}
use Rattle.sea_top.proofs.Crashes.{few_logged, log_more, no_log}
use Rattle.sea_top.proofs.serving.serve_all.Goals as goal

pub loop-asked-init : goal.loop-asked-init
loop-asked-init c = record {
  served = rw c.requires.none (none_served c.args.plan.now c.args.objects.now c.args.queue.now.rest);
  count = ap length c.requires.none;
  logged = λ start waits. ([], waits, rw c.requires.none (no_log c.args.plan.now c.args.objects.now), refl);
  place = refl;
  queued = λ start news waits. ([], rw (append-nil news) waits, refl);
}

pub returns-in_err-push-clause-entries : goal.returns-in_err-push-clause-entries
returns-in_err-push-clause-entries c =
    (c.loop-asked.objects, c.loop-asked.queue.rest, rw c.in_err-push.ensures.err c.loop-asked.invariant.served)

pub loop-asked-preserved : goal.loop-asked-preserved
loop-asked-preserved c =
    let before = c.loop-asked.invariant in
    let plan = c.args.plan.now in
    let entries = c.loop-asked.entries in
    let ask = c.asked-item.result in
    let reply = c.in_ok-reply.reply in
    let replied = c.in_ok-reply.ensures in
    let at : slice_get plan (length entries) ≡ Some ask =
    ap (slice_get plan) before.count ∙ slice_get_read plan (length plan) c.loop-asked.asked-index ask refl c.loop-asked-test.true c.asked-item.is in
    let some : length entries < length plan = omega (arith, before.count, c.loop-asked-test.true) in
    let one = one_served plan c.args.objects.now c.loop-asked.objects c.args.queue.now.rest c.loop-asked.queue.rest entries ask reply c.requires.first before.served some at replied.reply replied.room in
    let same : c.push.new.self ≡ entries ++ record { client = ask.client; number = length entries + 1; reply = reply } ∷ [] =
    c.in_ok-push.ensures.ok ∙ ap (λ (items : List Entry). entries ++ record { client = ask.client; number = length items + 1; reply = reply } ∷ []) c.items.ensures in
    record {
      served = rw (replied.objects, replied.rest, same) one;
      count = omega (arith, ap length same, before.count, length-append entries (record { client = ask.client; number = length entries + 1; reply = reply } ∷ []));
      logged = λ start waits.
          let so_far = before.logged start waits in
          let added = replied.queued start so_far.0 so_far.1 in
          let entry : Entry = record { client = ask.client; number = length entries + 1; reply = reply } in
          let pieces = flat_map-append (λ (plain : PlainRecord). plain.pieces) so_far.0 added.0 in
          let objects : c.reply_to.new.objects ≡ after_pieces (pieces_of (so_far.0 ++ added.0)) c.args.objects.now =
          added.2 ∙ ap (after_pieces (pieces_of added.0)) so_far.3 ∙ sym (after_pieces-append (pieces_of so_far.0) (pieces_of added.0) c.args.objects.now) ∙ ap (λ (p : List Piece). after_pieces p c.args.objects.now) (sym pieces) in
          let legal : Legal plan c.args.objects.now (entries ++ entry ∷ []) (after_pieces (pieces_of (so_far.0 ++ added.0)) c.args.objects.now) =
          subst (λ (o : ObjectMap). Legal plan c.args.objects.now (entries ++ entry ∷ []) o) (sym replied.objects ∙ objects) one.legal in (
            so_far.0 ++ added.0,
            added.1,
            rw same (log_more plan c.args.objects.now entries so_far.0 entry ask.request added.0 so_far.2 (next_request plan (length entries) ask c.requires.first at) added.3 (few_logged entry ask.request added.0 added.3) legal),
            objects,
          );
      place = replied.place ∙ before.place;
      queued = λ start news waits.
          let so_far = before.queued start news waits in
          let added = replied.queued start (news ++ so_far.0) so_far.1 in
          let pieces = flat_map-append (λ (plain : PlainRecord). plain.pieces) so_far.0 added.0 in (
            so_far.0 ++ added.0,
            rw (← append_assoc) added.1,
            added.2 ∙ ap (after_pieces (pieces_of added.0)) so_far.2 ∙ sym (after_pieces-append (pieces_of so_far.0) (pieces_of added.0) c.args.objects.now) ∙ ap (λ (p : List Piece). after_pieces p c.args.objects.now) (sym pieces),
          );
    }

pub returns-in_err-reply-clause-logged : goal.returns-in_err-reply-clause-logged
returns-in_err-reply-clause-logged c start waits =
    let so_far = c.loop-asked.invariant.logged start waits in (so_far.0, so_far.1.linked, so_far.2)

pub returns-in_err-push-clause-logged : goal.returns-in_err-push-clause-logged
returns-in_err-push-clause-logged c start waits =
    let so_far = c.loop-asked.invariant.logged start waits in
    (so_far.0, so_far.1.linked, rw c.in_err-push.ensures.err so_far.2)

pub returns-clause-logged : goal.returns-clause-logged
returns-clause-logged c start waits =
    let so_far = c.loop-asked.invariant.logged start waits in (so_far.0, so_far.1.linked, so_far.2)
