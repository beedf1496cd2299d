-- An engine whose clients have taken no turn yet.
use Rattle.std.proofs.Common.{◌≡◌, ℕ, zero, suc, ◌+◌, ◌≤◌, List, [], ◌∷◌, ◌++◌, Option, Some, None, length, get_or, take, refl, sym, ap, ◌∙◌, subst, arith}
use Rattle.std.specs.Prelude.{map as map_list, slice_get}
use Rattle.std.specs.FinMap as map
use Rattle.std.proofs.lemmas.List.{length-map}
use Rattle.std.proofs.lemmas.List.Elements.{All-cons, All-nil, All-same}
use Rattle.sea_device.specs.declared.device.Device.{Ghosts as Devices}
use Rattle.sea_history.specs.History.{Legal, none as no_entry}
use Rattle.sea_history.specs.Plan.{Requests}
use Rattle.sea_history.specs.Record.{empty_record}
use Rattle.sea_history.specs.declared.history.Entry.{Entry}
use Rattle.sea_object.specs.Objects.{ObjectMap}
use Rattle.sea_object.specs.declared.op.Op.{Op}
use Rattle.sea_object.specs.declared.reply.Reply.{Reply}
use Rattle.sea_record.specs.declared.record.Record.{Record}
use Rattle.sea_segment.specs.declared.state.Segment.{Segment}
use Rattle.sea_trail.specs.Trail.{IsTrail}
use Rattle.sea_trail.specs.declared.trail.Trail.{Trail}
use Rattle.sea_journal.specs.Log.{Log}
use Rattle.sea_journal.specs.Opening.{IsBegun, LeadsTo, with_room, with_roll}
use Rattle.sea_journal.specs.Resume.{mount_record, opened as begun}
use Rattle.sea_transactions.specs.declared.transactions.Transactions.{Ghosts}
use Rattle.sea_engine.specs.Engine.{AllServed, HasPastFrom, IsSound, Suits, phase_at, phases_from, state_at, turns_of}
use Rattle.sea_engine.specs.Opens.{Makes}
use Rattle.sea_engine.specs.Reading.{IsQuiet, IsRead}
use Rattle.sea_engine.specs.Turns.{Phase, idle, Turns, Run, none, opened, at_rest, first_phase}
use Rattle.sea_engine.specs.declared.engine.Engine.{Engine}
use Rattle.sea_engine.specs.declared.state.ClientState.{ClientState}
use Rattle.sea_engine.specs.declared.state.ClientState.TheVariants.{Idle, Waiting, Running, Ready}
use Rattle.sea_engine.proofs.Making.{makes_both}
use Rattle.sea_engine.proofs.Stages.{phase_is, phases_length}

-- ---- states

-- a client of whose requests none is entered is at rest
first_is : (plan : Requests) (i : ℕ) → (o : Option (List Op)) × (get_or (map_list first_phase plan) i idle ≡ at_rest o)
first_is [] i = (None, refl)
first_is (r ∷ rs) zero = (slice_get r 0, refl)
first_is (r ∷ rs) (suc i) = first_is rs i

rest_is : (plan : Requests) (client : ℕ) → (o : Option (List Op)) × (get_or (idle ∷ map_list first_phase plan) client idle ≡ at_rest o)
rest_is plan zero = (None, refl)
rest_is plan (suc i) = first_is plan i

suits_rest : {T : Type 0} (t : Ghosts T) (transactions : T) (plan : Requests) (history : List Entry) (client : ℕ) (s : ClientState) (reply : Reply) (o : Option (List Op)) → phase_at s reply ≡ at_rest o → Suits t transactions plan history client s
suits_rest t transactions plan history client Idle reply o e = tt
suits_rest t transactions plan history client Waiting reply o e = tt
suits_rest t transactions plan history client (Running done began) reply None e = absurd (cc)
suits_rest t transactions plan history client (Running done began) reply (Some r) e = absurd (cc)
suits_rest t transactions plan history client (Ready began) reply None e = absurd (cc)
suits_rest t transactions plan history client (Ready began) reply (Some r) e = absurd (cc)

module _ {D T : Type 0} {d : Devices D} (t : Ghosts T) (engine : Engine D T d) (phases : phases_from 1 engine.states.items (t.state engine.transactions).transaction ≡ map_list first_phase engine.plan) (history : engine.history ≡ empty_record (length engine.plan)) where
  pub turns_first : turns_of t engine ≡ opened engine.plan
  turns_first =
      ap (λ (ps : List Phase). record { plan = engine.plan; phases = ps; history = engine.history.entries; acknowledged = engine.history.acknowledged; sent_back = engine.history.sent_back }) phases
      ∙ ap (λ h. record { plan = engine.plan; phases = map_list first_phase engine.plan; history = h.entries; acknowledged = h.acknowledged; sent_back = h.sent_back }) history

  pub sound_first : (records : List Record) → IsQuiet (length engine.plan) records (t.state engine.transactions) → (t.state engine.transactions).last.0 ≤ engine.last.0 → AllServed t.serves engine.plan → IsSound t engine
  sound_first records quiet last served = record {
    reached = record { plan = engine.plan; events = []; run = subst (λ (u : Turns). Run [] (opened engine.plan) u) (sym turns_first) (none (opened engine.plan)) };
    clients = quiet.count;
    states = sym (phases_length 1 engine.states.items (t.state engine.transactions).transaction) ∙ ap length phases ∙ length-map engine.plan first_phase;
    counted = ap (λ h. h.clients) history;
    stable = λ client.
        let reply = ((t.state engine.transactions).transaction client).reply in
        let o = rest_is engine.plan client in
        let is : phase_at (state_at engine.states.items client) reply ≡ at_rest o.0 =
        sym (phase_is client engine.states.items (t.state engine.transactions).transaction) ∙ ap (λ (ps : List Phase). get_or (idle ∷ ps) client idle) phases ∙ o.1 in
        suits_rest t engine.transactions engine.plan engine.history.entries client (state_at engine.states.items client) reply o.0 is;
    served = served;
    last = last;
  }

-- ---- the past

-- a past that a journal's mount record goes on from
record LeadsFrom (image : List ℕ) (trail : Trail) (start : Log) : Type 0 where
  opened : start.opened ≡ image
  queued : start.queued ≡ []
  records : start.trail.records ≡ trail.records

leads_from : (image : List ℕ) (trail : Trail) (table : List Segment) (start : Log) → LeadsTo (begun image trail) table start → LeadsFrom image trail start
leads_from image trail table start (with_room room same) = record {
  opened = ap (λ (l : Log). l.opened) same;
  queued = ap (λ (l : Log). l.queued) same;
  records = ap (λ (l : Log). l.trail.records) same;
}
leads_from image trail table start (with_roll full rolled least) = record {
  opened = rolled.opened;
  queued = rolled.queued;
  records = rolled.trail.records ∙ ap (λ (u : Trail). u.records) (rolled.still refl);
}

module _ {D T : Type 0} (d : Devices D) (t : Ghosts T) (engine : Engine D T d) (image : List ℕ) (trail : Trail) (table : List Segment) (history : engine.history ≡ empty_record (length engine.plan)) (read : IsRead t.lays image trail (t.state engine.transactions)) (b : IsBegun d (begun image trail) table engine.journal) where
  abbrev objects : ObjectMap
  objects = (t.state engine.transactions).objects

  leads : LeadsFrom image trail b.start
  leads = leads_from image trail table b.start b.leads

  abbrev mount : Record
  mount = mount_record b.start.trail

  -- no record is left behind
  all_stay : b.synced.trail.gone ≡ []
  all_stay = b.synced.trail.none (All-same (λ r. r.tail ≡ b.start.trail.tail) (b.start.queued ++ mount ∷ []) (mount ∷ []) (ap (λ (rs : List Record). rs ++ mount ∷ []) leads.queued) (All-cons (λ r. r.tail ≡ b.start.trail.tail) mount [] refl (All-nil (λ r. r.tail ≡ b.start.trail.tail))))

  records_now : b.log.trail.records ≡ trail.records ++ mount ∷ []
  records_now =
      sym (b.synced.trail.records ∙ ap (λ (rs : List Record). rs ++ b.log.trail.records) all_stay)
      ∙ ap (λ (rs : List Record). b.start.trail.records ++ (rs ++ mount ∷ [])) leads.queued
      ∙ ap (λ (rs : List Record). rs ++ mount ∷ []) leads.records

  made_now : (behind : List Record) → behind ≡ [] → Makes t.lays (b.log.trail.records ++ behind) map.empty objects
  made_now behind nothing =
      let same : b.log.trail.records ++ behind ≡ (trail.records ++ mount ∷ []) ++ [] = ap (λ (rs : List Record). rs ++ behind) records_now ∙ ap (λ (rs : List Record). (trail.records ++ mount ∷ []) ++ rs) nothing in
      let all : Makes t.lays (trail.records ++ mount ∷ []) map.empty objects = makes_both t.lays trail.records (mount ∷ []) map.empty objects objects read.made (objects, refl, refl) in
      subst (λ (rs : List Record). Makes t.lays rs map.empty objects) (sym same) (makes_both t.lays (trail.records ++ mount ∷ []) [] map.empty objects objects all refl)

  none_yet : engine.history.entries ≡ []
  none_yet = ap (λ h. h.entries) history

  legal_of : (entries : List Entry) → entries ≡ [] → Legal engine.plan objects entries objects
  legal_of entries nothing = subst (λ (es : List Entry). Legal engine.plan objects es objects) (sym nothing) no_entry

  take_none : (k : ℕ) (rs : List Record) → rs ≡ [] → take k rs ≡ []
  take_none zero [] e = refl
  take_none (suc k) [] e = refl
  take_none k (r ∷ rs) e = absurd (cc)

  take_zero : (es : List Entry) → take 0 es ≡ []
  take_zero [] = refl
  take_zero (e ∷ es) = refl

  pub past_first : HasPastFrom t image engine
  past_first = record {
    found = objects;
    log = b.log;
    from = b.synced.opened ∙ leads.opened;
    past = record {
      has_log = b.has_log;
      opened = record { trail = trail; is_trail = subst (λ (c : List ℕ). IsTrail c trail) (sym (b.synced.opened ∙ leads.opened)) read.is_trail; made = read.made };
      legal = legal_of engine.history.entries none_yet;
      made = made_now b.log.queued b.synced.queued;
      prefixes = λ k le. record {
        count = 0;
        acknowledged = let a : engine.history.acknowledged ≡ 0 = ap (λ h. h.acknowledged) history in omega (arith, a);
        within = omega arith;
        objects = objects;
        made = made_now (take k b.log.queued) (take_none k b.log.queued b.synced.queued);
        legal = legal_of (take 0 engine.history.entries) (take_zero engine.history.entries);
      };
      tails = All-same (λ r. r.tail ≡ b.log.trail.tail) b.log.queued [] b.synced.queued (All-nil (λ r. r.tail ≡ b.log.trail.tail));
    };
  }
