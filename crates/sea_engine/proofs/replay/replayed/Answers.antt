use Rattle.std.proofs.Common.{◌≡◌, ℕ, ◌+◌, ◌<◌, List, [], ◌∷◌, ◌++◌, length, take, drop, get_or, refl, sym, ap, ◌∙◌, subst, arith}
use Rattle.std.specs.FinMap as map
use Rattle.std.proofs.lemmas.Bool.{MatchBool-at_true, MatchBool-at_false}
use Rattle.std.proofs.lemmas.List.{take_more, drop_more, take-append-drop}
use Rattle.sea_record.specs.declared.record.Record.{Record}
use Rattle.sea_engine.specs.Opens.{AreRising, Makes}
use Rattle.sea_engine.specs.Replay.{last_number}
use Rattle.sea_engine.proofs.Making.{makes_both, rising_from}
use Rattle.sea_engine.proofs.Rising.{last_push}
use Rattle.sea_engine.proofs.replay.replayed.Goals as goal

pub returns-then-not-branch-clause-cause : goal.returns-then-not-branch-clause-cause
returns-then-not-branch-clause-cause g c =
    let records = c.args.records.now in
    let i = c.loop-record.record-index in
    let this = c.record-item.result in
    let why = MatchBool-at_false _ _ c.if-not-branch.true c.in_ok-replay.ensures in
    let next : drop i records ≡ this ∷ drop (i + 1) records = drop_more records i this c.loop-record-test.true ∙ ap (λ r. r ∷ drop (i + 1) records) (sym c.record-item.is) in
    record {
      before = take i records;
      strange = this;
      behind = drop (i + 1) records;
      cut = sym (take-append-drop i records) ∙ ap (λ rs. take i records ++ rs) next;
      objects = (g.T.Transactions.state c.loop-record.transactions).objects;
      made = c.loop-record.invariant.made;
      kind = why.0;
      nothing = why.1;
      at = refl;
    }

pub loop-record-preserved : goal.loop-record-preserved
loop-record-preserved g c =
    let records = c.args.records.now in
    let i = c.loop-record.record-index in
    let this = c.record-item.result in
    let invariant = c.loop-record.invariant in
    let old = g.T.Transactions.state c.loop-record.transactions in
    let new = g.T.Transactions.state c.replay.new.transactions in
    let lays = g.T.Transactions.lays in
    let laid = MatchBool-at_true _ _ c.if-not-branch.false c.in_ok-replay.ensures in
    let next : drop i records ≡ this ∷ drop (i + 1) records = drop_more records i this c.loop-record-test.true ∙ ap (λ r. r ∷ drop (i + 1) records) (sym c.record-item.is) in
    let more : take (i + 1) records ≡ take i records ++ this ∷ [] = take_more records i this c.loop-record-test.true ∙ ap (λ r. take i records ++ r ∷ []) (sym c.record-item.is) in
    let rising : AreRising old.last.0 (this ∷ drop (i + 1) records) = subst (AreRising old.last.0) next invariant.rising in
    record {
      made = subst (λ rs. Makes lays rs map.empty new.objects) (sym more) (makes_both lays (take i records) (this ∷ []) map.empty old.objects new.objects invariant.made (new.objects, laid.laid, refl));
      clients = laid.clients ∙ invariant.clients;
      last = let end = ap (last_number 0) more ∙ last_push 0 (take i records) this in let upto = laid.last in omega (arith, end, upto);
      closed = laid.closed;
      rising = rising_from new.last.0 this.commit.0 (drop (i + 1) records) laid.last rising.1;
    }
