-- What holds of turns, after each event again.
use Rattle.std.proofs.Common.{◌≡◌, ◌≢◌, ℕ, zero, suc, ◌+◌, ◌-◌, ◌<◌, ◌≤◌, inl, inr, List, [], ◌∷◌, ◌++◌, length, set, refl, sym, ap, ◌∙◌, subst, arith}
use Rattle.std.proofs.lemmas.Bool.Decides.{eqb_tells}
use Rattle.std.proofs.lemmas.List.{length-set, length-map, length_push, append-nil, append_assoc}
use Rattle.std.specs.List.{AllByRecursion}
use Rattle.sea_object.specs.declared.op.Op.{Op}
use Rattle.sea_object.specs.declared.reply.Reply.{Reply}
use Rattle.sea_object.specs.declared.reply.Reply.TheVariants.{Full}
use Rattle.sea_history.specs.Plan.{Requests, IsClientOf, requests_of}
use Rattle.sea_history.specs.History.{AreNumbered}
use Rattle.sea_history.specs.Record.{count_of}
use Rattle.sea_history.specs.declared.history.Entry.{Entry}
use Rattle.sea_history.proofs.Numbers.{count_is, count_more, count_kept, numbered_more, none_numbered}
use Rattle.sea_engine.specs.Turns.{Phase, idle, waiting, running, ready, Turns, phase_of, in_phase, opened, first_phase}
use Rattle.sea_engine.specs.Turns.{request_after, at_rest, entry_of, entered, woken, pushed}
use Rattle.sea_engine.specs.Turns.{Does, goes_on, ends, is_refused, IsSentBack, Enters, answered, is_full, Steps}
use Rattle.sea_engine.specs.Turns.{Event, step, failure, sync, house, push, Turn, Run, none, more}
use Rattle.sea_engine.specs.TurnLaws.{IsReached, IsServing, GoesOn}
use Rattle.sea_engine.proofs.Phases.{here, elsewhere, at_work, Stands, rest_stands, first_stands, stands_longer, stands_woken}
use Rattle.sea_engine.proofs.Phases.{served_few, idle_served, served_idle, left_over, not_waiting, not_running, not_ready}

-- for so many clients
pub record Holds (clients : ℕ) (turns : Turns) : Type 0 where
  pub planned : length turns.plan ≡ clients
  pub phased : length turns.phases ≡ clients
  pub numbered : AreNumbered turns.history
  pub known : AllByRecursion (λ entry. (1 ≤ entry.client) × (entry.client ≤ clients)) turns.history
  pub stands : (client : ℕ) → Stands (phase_of client turns) (count_of client turns.history) (length (requests_of client turns.plan)) (length turns.history)
  pub acknowledged : turns.acknowledged ≤ length turns.history

-- ---- the start

pub opened_stands : (plan : Requests) (client : ℕ) → Stands (phase_of client (opened plan)) 0 (length (requests_of client plan)) 0
opened_stands plan zero = refl
opened_stands plan (suc c) = first_stands plan c

pub opened_holds : (plan : Requests) → Holds (length plan) (opened plan)
opened_holds plan = record {
  planned = refl;
  phased = length-map plan first_phase;
  numbered = none_numbered;
  known = tt;
  stands = opened_stands plan;
  acknowledged = omega arith;
}

-- ---- another phase

-- Where one client stands otherwise, each stands right where this one does.
stands_at : (turns : Turns) (client : ℕ) (phase : Phase) (q served asked long : ℕ) → 1 ≤ client → client ≤ length turns.phases → (q ≡ client → Stands phase served asked long) → (q ≢ client → Stands (phase_of q turns) served asked long) → Stands (phase_of q (in_phase client phase turns)) served asked long
stands_at turns client phase q served asked long some few own others =
    elim (eqb_tells q client) [
      | inl same ↦
          let e : phase_of q (in_phase client phase turns) ≡ phase = ap (λ k. phase_of k (in_phase client phase turns)) same.1 ∙ here turns.phases client phase idle some few in
          subst (λ p. Stands p served asked long) (sym e) (own same.1)
      | inr apart ↦
          let e = elsewhere turns.phases q client phase idle some apart.1 in
          subst (λ p. Stands p served asked long) (sym e) (others apart.1)
    ]

phase_holds : (clients : ℕ) (turns : Turns) (client : ℕ) (phase : Phase) → Holds clients turns → 1 ≤ client → client ≤ clients → Stands phase (count_of client turns.history) (length (requests_of client turns.plan)) (length turns.history) → Holds clients (in_phase client phase turns)
phase_holds clients turns client phase holds some few this = record {
  planned = holds.planned;
  phased = length-set turns.phases (client - 1) phase ∙ holds.phased;
  numbered = holds.numbered;
  known = holds.known;
  stands = λ q. stands_at turns client phase q (count_of q turns.history) (length (requests_of q turns.plan)) (length turns.history) some (omega (arith, holds.phased))
      (λ same. subst (λ k. Stands phase (count_of k turns.history) (length (requests_of k turns.plan)) (length turns.history)) (sym same) this)
      (λ apart. holds.stands q);
  acknowledged = holds.acknowledged;
}

-- ---- an entry

known_more : (clients : ℕ) (es : List Entry) (e : Entry) → AllByRecursion (λ entry. (1 ≤ entry.client) × (entry.client ≤ clients)) es → 1 ≤ e.client → e.client ≤ clients → AllByRecursion (λ entry. (1 ≤ entry.client) × (entry.client ≤ clients)) (es ++ e ∷ [])
known_more clients [] e known some few = ((some, few), tt)
known_more clients (x ∷ es) e known some few = (known.0, known_more clients es e known.1 some few)

entered_holds : (clients : ℕ) (turns : Turns) (client : ℕ) (reply : Reply) → Holds clients turns → 1 ≤ client → client ≤ clients → count_of client turns.history < length (requests_of client turns.plan) → Holds clients (entered client reply turns)
entered_holds clients turns client reply holds some few left =
    let served = count_of client turns.history + 1 in
    let phase = at_rest (request_after client served turns.plan) in
    let entry = entry_of client reply turns in
    let history = turns.history ++ entry ∷ [] in
    let longer : length history ≡ length turns.history + 1 = length_push turns.history entry in
    record {
      planned = holds.planned;
      phased = length-set turns.phases (client - 1) phase ∙ holds.phased;
      numbered = numbered_more turns.history entry holds.numbered refl;
      known = known_more clients turns.history entry holds.known some few;
      stands = λ q. stands_at turns client phase q (count_of q history) (length (requests_of q turns.plan)) (length history) some (omega (arith, holds.phased))
          (λ same.
          let count : served ≡ count_of q history = sym (count_more q turns.history entry same ∙ ap (λ k. count_of k turns.history + 1) same) in
          let this = rest_stands (requests_of client turns.plan) served (length history) (omega (arith, left)) in
          let here : Stands phase served (length (requests_of q turns.plan)) (length history) = subst (λ k. Stands phase served (length (requests_of k turns.plan)) (length history)) (sym same) this in
          subst (λ n. Stands phase n (length (requests_of q turns.plan)) (length history)) count here)
          (λ apart.
          let count = count_kept q turns.history entry apart in
          let this = stands_longer (phase_of q turns) (count_of q turns.history) (length (requests_of q turns.plan)) (length turns.history) (length history) (omega (arith, longer)) (holds.stands q) in
          subst (λ n. Stands (phase_of q turns) n (length (requests_of q turns.plan)) (length history)) (sym count) this);
      acknowledged = let a = holds.acknowledged in omega (arith, a, longer);
    }

-- ---- a request more

asked_more : (plan : Requests) (client q : ℕ) (request : List Op) → 1 ≤ client → client ≤ length plan → q ≡ client → length (requests_of q (set plan (client - 1) (requests_of client plan ++ request ∷ []))) ≡ length (requests_of client plan) + 1
asked_more plan client q request some few same =
    let requests = requests_of client plan ++ request ∷ [] in
    ap (λ k. length (requests_of k (set plan (client - 1) requests))) same ∙ ap length (here plan client requests [] some few) ∙ length_push (requests_of client plan) request

pushed_holds : (clients : ℕ) (turns : Turns) (client : ℕ) (request : List Op) → Holds clients turns → IsClientOf client turns.plan → Holds clients (pushed client request turns)
pushed_holds clients turns client request holds known =
    let requests = requests_of client turns.plan ++ request ∷ [] in
    let plan = set turns.plan (client - 1) requests in
    let phase = woken (phase_of client turns) in
    record {
      planned = length-set turns.plan (client - 1) requests ∙ holds.planned;
      phased = length-set turns.phases (client - 1) phase ∙ holds.phased;
      numbered = holds.numbered;
      known = holds.known;
      stands = λ q. stands_at turns client phase q (count_of q turns.history) (length (requests_of q plan)) (length turns.history) known.0 (let few = known.1 in omega (arith, few, holds.planned, holds.phased))
          (λ same.
          let this = stands_woken (phase_of client turns) (count_of client turns.history) (length (requests_of client turns.plan)) (length turns.history) (holds.stands client) in
          let there : Stands phase (count_of q turns.history) (length (requests_of client turns.plan) + 1) (length turns.history) = subst (λ k. Stands phase (count_of k turns.history) (length (requests_of client turns.plan) + 1) (length turns.history)) (sym same) this in
          subst (λ n. Stands phase (count_of q turns.history) n (length turns.history)) (sym (asked_more turns.plan client q request known.0 known.1 same)) there)
          (λ apart.
          let same = elsewhere turns.plan q client requests [] known.0 apart in
          subst (λ rs. Stands (phase_of q turns) (count_of q turns.history) (length rs) (length turns.history)) (sym same) (holds.stands q));
      acknowledged = holds.acknowledged;
    }

-- ---- each event

-- a client at work has a place
pub place : (clients : ℕ) (turns : Turns) (client : ℕ) → Holds clients turns → phase_of client turns ≢ idle → (1 ≤ client) × (client ≤ clients)
place clients turns client holds not_idle =
    let at = at_work turns.phases client not_idle in
    (at.0, (let few = at.1 in omega (arith, few, holds.phased)))

waits : (clients : ℕ) (turns : Turns) (client : ℕ) → Holds clients turns → phase_of client turns ≢ idle → Holds clients (in_phase client waiting turns)
waits clients turns client holds not_idle =
    let at = place clients turns client holds not_idle in
    phase_holds clients turns client waiting holds at.0 at.1 (left_over (phase_of client turns) _ _ _ (holds.stands client) not_idle)

sent_back_holds : (clients : ℕ) (before after : Turns) (client began : ℕ) → Holds clients before → phase_of client before ≢ idle → IsSentBack client began before after → Holds clients after
sent_back_holds clients before after client began holds not_idle back =
    let h = waits clients before client holds not_idle in
    subst (Holds clients) (sym back.changed) (record {
      planned = h.planned;
      phased = h.phased;
      numbered = h.numbered;
      known = h.known;
      stands = h.stands;
      acknowledged = h.acknowledged;
    })

does_stands : (request : List Op) (done began : ℕ) (phase : Phase) (served asked long : ℕ) → Does request done began phase → (served < asked) × (began ≤ long) → Stands phase served asked long
does_stands request done began phase served asked long (goes_on left is) stands = subst (λ p. Stands p served asked long) (sym is) stands
does_stands request done began phase served asked long (ends items all is) stands = subst (λ p. Stands p served asked long) (sym is) stands
does_stands request done began phase served asked long (is_refused why left is) stands = subst (λ p. Stands p served asked long) (sym is) stands

enters_holds : (clients : ℕ) (before after : Turns) (client : ℕ) (reply : Reply) → Holds clients before → phase_of client before ≢ idle → Enters client reply before after → Holds clients after
enters_holds clients before after client reply holds not_idle (answered changed) =
    let at = place clients before client holds not_idle in
    subst (Holds clients) (sym changed) (entered_holds clients before client reply holds at.0 at.1 (left_over (phase_of client before) _ _ _ (holds.stands client) not_idle))
enters_holds clients before after client reply holds not_idle (is_full need rest empty changed) =
    let at = place clients before client holds not_idle in
    subst (Holds clients) (sym changed) (entered_holds clients before client (Full need rest empty) holds at.0 at.1 (left_over (phase_of client before) _ _ _ (holds.stands client) not_idle))

steps_hold : (clients : ℕ) (before after : Turns) (client : ℕ) (phase : Phase) → phase_of client before ≡ phase → Steps client phase before after → Holds clients before → Holds clients after
steps_hold clients before after client idle is changed holds = subst (Holds clients) (sym changed) holds
steps_hold clients before after client waiting is changed holds =
    let not_idle = not_waiting (phase_of client before) is in
    let at = place clients before client holds not_idle in
    let left = left_over (phase_of client before) _ _ _ (holds.stands client) not_idle in
    subst (Holds clients) (sym changed) (phase_holds clients before client (running 0 (length before.history)) holds at.0 at.1 (left, omega arith))
steps_hold clients before after client (running done began) is (inl executes) holds =
    let not_idle = not_running (phase_of client before) done began is in
    let at = place clients before client holds not_idle in
    let stands = subst (λ p. Stands p (count_of client before.history) (length (requests_of client before.plan)) (length before.history)) is (holds.stands client) in
    subst (Holds clients) (sym executes.changed) (phase_holds clients before client executes.phase holds at.0 at.1 (does_stands executes.request done began executes.phase _ _ _ executes.does stands))
steps_hold clients before after client (running done began) is (inr back) holds =
    sent_back_holds clients before after client began holds (not_running (phase_of client before) done began is) back
steps_hold clients before after client (ready began reply) is (inl enters) holds =
    enters_holds clients before after client reply holds (not_ready (phase_of client before) began reply is) enters
steps_hold clients before after client (ready began reply) is (inr back) holds =
    sent_back_holds clients before after client began holds (not_ready (phase_of client before) began reply is) back

pub turn_holds : (clients : ℕ) (event : Event) (before after : Turns) → Turn event before after → Holds clients before → Holds clients after
turn_holds clients (step client) before after turn holds = steps_hold clients before after client (phase_of client before) refl turn holds
turn_holds clients (failure client) before after turn holds = subst (Holds clients) (sym turn.1) (waits clients before client holds turn.0)
turn_holds clients sync before after turn holds =
    subst (Holds clients) (sym turn) (record {
      planned = holds.planned;
      phased = holds.phased;
      numbered = holds.numbered;
      known = holds.known;
      stands = holds.stands;
      acknowledged = omega arith;
    })
turn_holds clients house before after turn holds = subst (Holds clients) (sym turn) holds
turn_holds clients (push client request) before after turn holds = subst (Holds clients) (sym turn.1) (pushed_holds clients before client request holds turn.0)

pub run_holds : (clients : ℕ) (events : List Event) (before after : Turns) → Run events before after → Holds clients before → Holds clients after
run_holds clients [] before after (none turns) holds = holds
run_holds clients (event ∷ events) before after (more e es b between a turn run) holds =
    run_holds clients events between after run (turn_holds clients event before between turn holds)

pub reached_holds : (turns : Turns) (reached : IsReached turns) → Holds (length reached.plan) turns
reached_holds turns reached =
    run_holds (length reached.plan) reached.events (opened reached.plan) turns reached.run (opened_holds reached.plan)

-- ---- what holds of all turns that are reached

pub serves_plan : (turns : Turns) → IsReached turns → IsServing turns
serves_plan turns reached =
    let holds = reached_holds turns reached in
    record {
      serves = record {
        numbered = holds.numbered;
        asked = λ client. let few = served_few (phase_of client turns) _ _ _ (holds.stands client) in let count = count_is client turns.history in omega (arith, few, count);
      };
      idle = λ client.
          let count = count_is client turns.history in (
            λ is. count ∙ idle_served (phase_of client turns) _ _ _ (holds.stands client) is,
            λ all. served_idle (phase_of client turns) _ _ _ (holds.stands client) (sym count ∙ all),
          );
    }

pub acknowledges : (turns : Turns) → IsReached turns → turns.acknowledged ≤ length turns.history
acknowledges turns reached = (reached_holds turns reached).acknowledged

-- ---- histories go on

stays : (before after : Turns) → after.history ≡ before.history → after.acknowledged ≡ before.acknowledged → GoesOn before after
stays before after history acknowledged = record {
  entries = [];
  history = history ∙ sym (append-nil before.history);
  acknowledged = omega (arith, acknowledged);
}

goes_by_phase : (before after : Turns) (client : ℕ) (phase : Phase) → after ≡ in_phase client phase before → GoesOn before after
goes_by_phase before after client phase changed =
    stays before after (ap (λ t. t.history) changed) (ap (λ t. t.acknowledged) changed)

goes_by_back : (before after : Turns) (client began : ℕ) → IsSentBack client began before after → GoesOn before after
goes_by_back before after client began back =
    stays before after (ap (λ t. t.history) back.changed) (ap (λ t. t.acknowledged) back.changed)

goes_by_entry : (before after : Turns) (client : ℕ) (reply : Reply) → after ≡ entered client reply before → GoesOn before after
goes_by_entry before after client reply changed = record {
  entries = entry_of client reply before ∷ [];
  history = ap (λ t. t.history) changed;
  acknowledged = let same = ap (λ t. t.acknowledged) changed in omega (arith, same);
}

goes_by_step : (before after : Turns) (client : ℕ) (phase : Phase) → Steps client phase before after → GoesOn before after
goes_by_step before after client idle changed = stays before after (ap (λ t. t.history) changed) (ap (λ t. t.acknowledged) changed)
goes_by_step before after client waiting changed = goes_by_phase before after client (running 0 (length before.history)) changed
goes_by_step before after client (running done began) (inl executes) = goes_by_phase before after client executes.phase executes.changed
goes_by_step before after client (running done began) (inr back) = goes_by_back before after client began back
goes_by_step before after client (ready began reply) (inl (answered changed)) = goes_by_entry before after client reply changed
goes_by_step before after client (ready began reply) (inl (is_full need rest empty changed)) = goes_by_entry before after client (Full need rest empty) changed
goes_by_step before after client (ready began reply) (inr back) = goes_by_back before after client began back

pub turn_goes_on : (event : Event) (before after : Turns) → before.acknowledged ≤ length before.history → Turn event before after → GoesOn before after
turn_goes_on (step client) before after few turn = goes_by_step before after client (phase_of client before) turn
turn_goes_on (failure client) before after few turn = goes_by_phase before after client waiting turn.1
turn_goes_on sync before after few turn = record {
  entries = [];
  history = ap (λ t. t.history) turn ∙ sym (append-nil before.history);
  acknowledged = let same = ap (λ t. t.acknowledged) turn in omega (arith, same, few);
}
turn_goes_on house before after few turn = stays before after (ap (λ t. t.history) turn) (ap (λ t. t.acknowledged) turn)
turn_goes_on (push client request) before after few turn = stays before after (ap (λ t. t.history) turn.1) (ap (λ t. t.acknowledged) turn.1)

pub run_goes_on : (clients : ℕ) (events : List Event) (before after : Turns) → Holds clients before → Run events before after → GoesOn before after
run_goes_on clients [] before after holds (none turns) = stays before before refl refl
run_goes_on clients (event ∷ events) before after holds (more e es b between a turn run) =
    let one = turn_goes_on event before between holds.acknowledged turn in
    let others = run_goes_on clients events between after (turn_holds clients event before between turn holds) run in
    record {
      entries = one.entries ++ others.entries;
      history = others.history ∙ ap (λ h. h ++ others.entries) one.history ∙ append_assoc before.history one.entries others.entries;
      acknowledged = let x = one.acknowledged in let y = others.acknowledged in omega (arith, x, y);
    }

pub appends : (events : List Event) (before after : Turns) → IsReached before → Run events before after → GoesOn before after
appends events before after reached run = run_goes_on (length reached.plan) events before after (reached_holds before reached) run
