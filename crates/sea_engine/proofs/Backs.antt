-- How often clients are sent back.
use Rattle.std.proofs.Common.{◌≡◌, ◌≢◌, ℕ, ◌+◌, ◌-◌, ◌*◌, ◌≤◌, inl, inr, Option, Some, None, Bool, true, false, cond, List, [], ◌∷◌, ◌++◌, length, drop, get_or, set, eqb, refl, sym, ap, ◌∙◌, subst, arith}
use Rattle.std.specs.Prelude.{count_by}
use Rattle.std.proofs.lemmas.Bool.Decides.{eqb_tells}
use Rattle.std.proofs.lemmas.List.{drop-drop, drop_at, drop-append-le, length_push}
use Rattle.std.proofs.lemmas.List.Sums.{sum_by-append, sum_by-take-drop}
use Rattle.sea_object.specs.declared.op.Op.{Op}
use Rattle.sea_object.specs.declared.reply.Reply.{Reply}
use Rattle.sea_object.specs.declared.reply.Reply.TheVariants.{Full}
use Rattle.sea_history.specs.Record.{count_of}
use Rattle.sea_history.specs.Plan.{requests_of}
use Rattle.sea_history.specs.declared.history.Entry.{Entry}
use Rattle.sea_engine.specs.Turns.{Phase, idle, waiting, running, ready, Turns, phase_of, in_phase, opened}
use Rattle.sea_engine.specs.Turns.{request_after, at_rest, entry_of, entered, woken, is_done_by_other, done_by_others}
use Rattle.sea_engine.specs.Turns.{Does, goes_on, ends, is_refused, IsSentBack, answered, is_full, Steps}
use Rattle.sea_engine.specs.Turns.{Event, step, failure, sync, house, push, Turn, Run, none, more}
use Rattle.sea_engine.specs.TurnLaws.{IsReached, start_of, backs_by, backs_in}
use Rattle.sea_engine.proofs.Phases.{here, elsewhere, Stands, not_waiting, not_running, not_ready}
use Rattle.sea_engine.proofs.Held.{Holds, place, turn_holds, run_goes_on, reached_holds, opened_holds}
use Rattle.sea_engine.proofs.Totals.{total, total_plus, total_le, total_zero, total_at, total_done}

-- ---- where clients began

start_few : (phase : Phase) (served asked : ℕ) (history : List Entry) → Stands phase served asked (length history) → start_of phase history ≤ length history
start_few idle served asked history stands = omega arith
start_few waiting served asked history stands = omega arith
start_few (running done began) served asked history stands = stands.1
start_few (ready began reply) served asked history stands = stands.1

start_grows : (phase : Phase) (old new : List Entry) → length old ≤ length new → start_of phase old ≤ start_of phase new
start_grows idle old new grows = grows
start_grows waiting old new grows = grows
start_grows (running done began) old new grows = omega arith
start_grows (ready began reply) old new grows = omega arith

start_rests : (next : Option (List Op)) (history : List Entry) → start_of (at_rest next) history ≡ length history
start_rests None history = refl
start_rests (Some request) history = refl

does_start : (request : List Op) (done began : ℕ) (phase : Phase) (history : List Entry) → Does request done began phase → start_of phase history ≡ began
does_start request done began phase history (goes_on left is) = ap (λ p. start_of p history) is
does_start request done began phase history (ends items all is) = ap (λ p. start_of p history) is
does_start request done began phase history (is_refused why left is) = ap (λ p. start_of p history) is

start_woken : (phase : Phase) (history : List Entry) → start_of (woken phase) history ≡ start_of phase history
start_woken idle history = refl
start_woken waiting history = refl
start_woken (running done began) history = refl
start_woken (ready began reply) history = refl

abbrev begins_at : ℕ → Turns → ℕ
begins_at client turns = start_of (phase_of client turns) turns.history

begins_few : (clients : ℕ) (turns : Turns) (client : ℕ) → Holds clients turns → begins_at client turns ≤ length turns.history
begins_few clients turns client holds = start_few (phase_of client turns) (count_of client turns.history) (length (requests_of client turns.plan)) turns.history (holds.stands client)

-- ---- what a step tells

-- Nothing changed; or the client stands elsewhere and began no earlier; or it was sent back.
data Tells (clients client : ℕ) (before after : Turns) : Type 0 where
  same : after ≡ before → Tells clients client before after
  moved : (phase : Phase) → (1 ≤ client) × (client ≤ clients) → after.phases ≡ set before.phases (client - 1) phase → after.sent_back ≡ before.sent_back → length before.history ≤ length after.history → begins_at client before ≤ start_of phase after.history → Tells clients client before after
  back : (1 ≤ client) × (client ≤ clients) → after.phases ≡ set before.phases (client - 1) waiting → after.sent_back ≡ before.sent_back + 1 → after.history ≡ before.history → 1 ≤ done_by_others client (drop (begins_at client before) before.history) → Tells clients client before after

tells_phase : (clients : ℕ) (before after : Turns) (client : ℕ) (phase : Phase) → (1 ≤ client) × (client ≤ clients) → begins_at client before ≤ start_of phase before.history → after ≡ in_phase client phase before → Tells clients client before after
tells_phase clients before after client phase at later changed =
    let history = ap (λ t. t.history) changed in
    let long = ap length history in
    moved phase at (ap (λ t. t.phases) changed) (ap (λ t. t.sent_back) changed) (omega (arith, long))
    (subst (λ h. begins_at client before ≤ start_of phase h) (sym history) later)

tells_back : (clients : ℕ) (before after : Turns) (client began : ℕ) → (1 ≤ client) × (client ≤ clients) → begins_at client before ≡ began → IsSentBack client began before after → Tells clients client before after
tells_back clients before after client began at is sent =
    back at (ap (λ t. t.phases) sent.changed) (ap (λ t. t.sent_back) sent.changed) (ap (λ t. t.history) sent.changed)
    (subst (λ k. 1 ≤ done_by_others client (drop k before.history)) (sym is) sent.overtaken)

tells_entry : (clients : ℕ) (before after : Turns) (client : ℕ) (reply : Reply) → Holds clients before → (1 ≤ client) × (client ≤ clients) → after ≡ entered client reply before → Tells clients client before after
tells_entry clients before after client reply holds at changed =
    let served = count_of client before.history + 1 in
    let next = request_after client served before.plan in
    let history = ap (λ t. t.history) changed in
    let long : length after.history ≡ length before.history + 1 = ap length history ∙ length_push before.history (entry_of client reply before) in
    let few = begins_few clients before client holds in
    moved (at_rest next) at (ap (λ t. t.phases) changed) (ap (λ t. t.sent_back) changed) (omega (arith, long))
    (let last = start_rests next after.history in omega (arith, long, few, last))

steps_tell : (clients : ℕ) (before after : Turns) (client : ℕ) (phase : Phase) → phase_of client before ≡ phase → Steps client phase before after → Holds clients before → Tells clients client before after
steps_tell clients before after client idle is changed holds = same changed
steps_tell clients before after client waiting is changed holds =
    let at = place clients before client holds (not_waiting (phase_of client before) is) in
    let start : begins_at client before ≡ length before.history = ap (λ p. start_of p before.history) is in
    tells_phase clients before after client (running 0 (length before.history)) at (omega (arith, start)) changed
steps_tell clients before after client (running done began) is (inl executes) holds =
    let at = place clients before client holds (not_running (phase_of client before) done began is) in
    let start : begins_at client before ≡ began = ap (λ p. start_of p before.history) is in
    let then = does_start executes.request done began executes.phase before.history executes.does in
    tells_phase clients before after client executes.phase at (omega (arith, start, then)) executes.changed
steps_tell clients before after client (running done began) is (inr sent) holds =
    let at = place clients before client holds (not_running (phase_of client before) done began is) in
    tells_back clients before after client began at (ap (λ p. start_of p before.history) is) sent
steps_tell clients before after client (ready began reply) is (inl (answered changed)) holds =
    let at = place clients before client holds (not_ready (phase_of client before) began reply is) in
    tells_entry clients before after client reply holds at changed
steps_tell clients before after client (ready began reply) is (inl (is_full need rest empty changed)) holds =
    let at = place clients before client holds (not_ready (phase_of client before) began reply is) in
    tells_entry clients before after client (Full need rest empty) holds at changed
steps_tell clients before after client (ready began reply) is (inr sent) holds =
    let at = place clients before client holds (not_ready (phase_of client before) began reply is) in
    tells_back clients before after client began at (ap (λ p. start_of p before.history) is) sent

-- ---- what an event tells of one client

data Counts (client backs : ℕ) (before after : Turns) : Type 0 where
  kept : backs ≡ 0 → begins_at client before ≤ begins_at client after → Counts client backs before after
  raised : backs ≡ 1 → after.history ≡ before.history → begins_at client after ≡ length before.history → 1 ≤ done_by_others client (drop (begins_at client before) before.history) → Counts client backs before after

-- the client of a step
own_counts : (clients client : ℕ) (before after : Turns) → Holds clients before → Tells clients client before after → Counts client (after.sent_back - before.sent_back) before after
own_counts clients client before after holds (same is) =
    let backs = ap (λ t. t.sent_back) is in
    let start = ap (begins_at client) is in
    kept (omega (arith, backs)) (omega (arith, start))
own_counts clients client before after holds (moved phase at phases backs long later) =
    let now : phase_of client after ≡ phase = ap (λ ps. get_or (idle ∷ ps) client idle) phases ∙ here before.phases client phase idle at.0 (let few = at.1 in omega (arith, few, holds.phased)) in
    kept (omega (arith, backs)) (subst (λ p. begins_at client before ≤ start_of p after.history) (sym now) later)
own_counts clients client before after holds (back at phases backs history enough) =
    let now : phase_of client after ≡ waiting = ap (λ ps. get_or (idle ∷ ps) client idle) phases ∙ here before.phases client waiting idle at.0 (let few = at.1 in omega (arith, few, holds.phased)) in
    raised (omega (arith, backs)) history (ap (λ p. start_of p after.history) now ∙ ap length history) enough

-- and another one
other_counts : (clients q client : ℕ) (before after : Turns) → client ≢ q → Tells clients q before after → Counts client 0 before after
other_counts clients q client before after apart (same is) =
    let start = ap (begins_at client) is in kept refl (omega (arith, start))
other_counts clients q client before after apart (moved phase at phases backs long later) =
    let now : phase_of client after ≡ phase_of client before = ap (λ ps. get_or (idle ∷ ps) client idle) phases ∙ elsewhere before.phases client q phase idle at.0 apart in
    let start : begins_at client after ≡ start_of (phase_of client before) after.history = ap (λ p. start_of p after.history) now in
    let grows = start_grows (phase_of client before) before.history after.history long in
    kept refl (omega (arith, start, grows))
other_counts clients q client before after apart (back at phases backs history enough) =
    let now : phase_of client after ≡ phase_of client before = ap (λ ps. get_or (idle ∷ ps) client idle) phases ∙ elsewhere before.phases client q waiting idle at.0 apart in
    let start : begins_at client after ≡ begins_at client before = ap (λ p. start_of p after.history) now ∙ ap (start_of (phase_of client before)) history in
    kept refl (omega (arith, start))

step_counts : (clients q client : ℕ) (before after : Turns) → Holds clients before → Tells clients q before after → Counts client (cond (eqb client q) (after.sent_back - before.sent_back) 0) before after
step_counts clients q client before after holds tells =
    elim (eqb_tells client q) [
      | inl own ↦
          let here = subst (λ k. Tells clients k before after) (sym own.1) tells in
          subst (λ b. Counts client (cond b (after.sent_back - before.sent_back) 0) before after) (sym own.0) (own_counts clients client before after holds here)
      | inr other ↦
          subst (λ b. Counts client (cond b (after.sent_back - before.sent_back) 0) before after) (sym other.0) (other_counts clients q client before after other.1 tells)
    ]

-- an event of a client that sends it nowhere
quiet_counts : (clients q client : ℕ) (before after : Turns) → Holds clients before → Tells clients q before after → after.sent_back ≡ before.sent_back → Counts client 0 before after
quiet_counts clients q client before after holds tells quiet =
    elim (eqb_tells client q) [
      | inl own ↦
          let here = subst (λ k. Tells clients k before after) (sym own.1) tells in
          let none : after.sent_back - before.sent_back ≡ 0 = omega (arith, quiet) in
          subst (λ n. Counts client n before after) none (own_counts clients client before after holds here)
      | inr other ↦ other_counts clients q client before after other.1 tells
    ]

failure_tells : (clients client : ℕ) (before after : Turns) → Holds clients before → Turn (failure client) before after → Tells clients client before after
failure_tells clients client before after holds turn =
    tells_phase clients before after client waiting (place clients before client holds turn.0) (begins_few clients before client holds) turn.1

push_tells : (clients client : ℕ) (request : List Op) (before after : Turns) → Holds clients before → Turn (push client request) before after → Tells clients client before after
push_tells clients client request before after holds turn =
    let history = ap (λ t. t.history) turn.1 in
    let long = ap length history in
    let phase = woken (phase_of client before) in
    let woke = start_woken (phase_of client before) before.history in
    let at : (1 ≤ client) × (client ≤ clients) = (turn.0.0, (let few = turn.0.1 in omega (arith, few, holds.planned))) in
    moved phase at (ap (λ t. t.phases) turn.1) (ap (λ t. t.sent_back) turn.1) (omega (arith, long))
    (subst (λ h. begins_at client before ≤ start_of phase h) (sym history) (omega (arith, woke)))

turn_counts : (clients : ℕ) (event : Event) (before after : Turns) → Holds clients before → Turn event before after → (client : ℕ) → Counts client (backs_by client event before after) before after
turn_counts clients (step q) before after holds turn client =
    step_counts clients q client before after holds (steps_tell clients before after q (phase_of q before) refl turn holds)
turn_counts clients (failure q) before after holds turn client =
    quiet_counts clients q client before after holds (failure_tells clients q before after holds turn) (ap (λ t. t.sent_back) turn.1)
turn_counts clients sync before after holds turn client =
    let start = ap (begins_at client) turn in kept refl (omega (arith, start))
turn_counts clients house before after holds turn client =
    let start = ap (begins_at client) turn in kept refl (omega (arith, start))
turn_counts clients (push q request) before after holds turn client =
    quiet_counts clients q client before after holds (push_tells clients q request before after holds turn) (ap (λ t. t.sent_back) turn.1)

-- ---- over a run

count_drop : (p : Entry → Bool) (k : ℕ) (xs : List Entry) → count_by p (drop k xs) ≤ count_by p xs
count_drop p k xs = let both = sum_by-take-drop (λ x. cond (p x) 1 0) xs k in omega (arith, both)

drop_less : (p : Entry → Bool) (i j : ℕ) (xs : List Entry) → i ≤ j → count_by p (drop j xs) ≤ count_by p (drop i xs)
drop_less p i j xs within =
    let less = count_drop p (j - i) (drop i xs) in
    let e : i + (j - i) ≡ j = omega (arith, within) in
    let same : drop (j - i) (drop i xs) ≡ drop j xs = drop-drop (j - i) i xs ∙ ap (λ k. drop k xs) e in
    subst (λ ys. count_by p ys ≤ count_by p (drop i xs)) same less

-- what was done before this history ends and what is done afterwards
done_both : (client k : ℕ) (old entries : List Entry) → k ≤ length old → done_by_others client (drop k (old ++ entries)) ≡ done_by_others client (drop k old) + done_by_others client entries
done_both client k old entries within =
    ap (done_by_others client) (drop-append-le k old entries within) ∙ sum_by-append (λ x. cond (is_done_by_other client x) 1 0) (drop k old) entries

done_behind : (client k : ℕ) (old entries : List Entry) → length old ≡ k → done_by_others client (drop k (old ++ entries)) ≡ done_by_others client entries
done_behind client k old entries is = ap (done_by_others client) (drop_at old entries k is)

pub backs_few : (clients : ℕ) (events : List Event) (before after : Turns) → Holds clients before → (run : Run events before after) (client : ℕ) → backs_in client events before after run ≤ done_by_others client (drop (begins_at client before) after.history)
backs_few clients [] before after holds (none turns) client = omega arith
backs_few clients (event ∷ events) before after holds (more e es b between a turn run) client =
    let held = turn_holds clients event before between turn holds in
    let rest = backs_few clients events between after held run client in
    let goes = run_goes_on clients events between after held run in
    elim (turn_counts clients event before between holds turn client) [
      | kept nil later ↦
          let less = drop_less (is_done_by_other client) (begins_at client before) (begins_at client between) after.history later in
          omega (arith, rest, nil, less)
      | raised one history start enough ↦
          let whole : after.history ≡ before.history ++ goes.entries = goes.history ∙ ap (λ h. h ++ goes.entries) history in
          let few = begins_few clients before client holds in
          let both = done_both client (begins_at client before) before.history goes.entries few in
          let behind = done_behind client (begins_at client between) before.history goes.entries (sym start) in
          let there : done_by_others client (drop (begins_at client before) after.history) ≡ done_by_others client (drop (begins_at client before) before.history) + done_by_others client goes.entries = ap (λ h. done_by_others client (drop (begins_at client before) h)) whole ∙ both in
          let then : done_by_others client (drop (begins_at client between) after.history) ≡ done_by_others client goes.entries = ap (λ h. done_by_others client (drop (begins_at client between) h)) whole ∙ behind in
          omega (arith, rest, one, enough, there, then)
    ]

pub sends_one_back : (events : List Event) (before after : Turns) → IsReached before → (run : Run events before after) (client : ℕ) → backs_in client events before after run ≤ done_by_others client (drop (start_of (phase_of client before) before.history) after.history)
sends_one_back events before after reached run client = backs_few (length reached.plan) events before after (reached_holds before reached) run client

-- ---- of all clients

either : (b : Bool) (n : ℕ) → n ≡ 0 → cond b n 0 ≡ 0
either true n nil = nil
either false n nil = refl

quiet_total : (clients q : ℕ) (before after : Turns) → after.sent_back ≡ before.sent_back → total clients (λ c. cond (eqb c q) (after.sent_back - before.sent_back) 0) + before.sent_back ≡ after.sent_back
quiet_total clients q before after quiet =
    let zero : after.sent_back - before.sent_back ≡ 0 = omega (arith, quiet) in
    let none = total_zero clients (λ c. cond (eqb c q) (after.sent_back - before.sent_back) 0) (λ c few. either (eqb c q) (after.sent_back - before.sent_back) zero) in
    omega (arith, none, quiet)

tells_total : (clients q : ℕ) (before after : Turns) → Tells clients q before after → total clients (λ c. cond (eqb c q) (after.sent_back - before.sent_back) 0) + before.sent_back ≡ after.sent_back
tells_total clients q before after (same is) = quiet_total clients q before after (ap (λ t. t.sent_back) is)
tells_total clients q before after (moved phase at phases backs long later) = quiet_total clients q before after backs
tells_total clients q before after (back at phases backs history enough) =
    let all = total_at clients q (after.sent_back - before.sent_back) at.0 at.1 in omega (arith, all, backs)

turn_total : (clients : ℕ) (event : Event) (before after : Turns) → Holds clients before → Turn event before after → total clients (λ c. backs_by c event before after) + before.sent_back ≡ after.sent_back
turn_total clients (step q) before after holds turn =
    tells_total clients q before after (steps_tell clients before after q (phase_of q before) refl turn holds)
turn_total clients (failure q) before after holds turn =
    let none = total_zero clients (λ c. 0) (λ c few. refl) in let same = ap (λ t. t.sent_back) turn.1 in omega (arith, none, same)
turn_total clients sync before after holds turn =
    let none = total_zero clients (λ c. 0) (λ c few. refl) in let same = ap (λ t. t.sent_back) turn in omega (arith, none, same)
turn_total clients house before after holds turn =
    let none = total_zero clients (λ c. 0) (λ c few. refl) in let same = ap (λ t. t.sent_back) turn in omega (arith, none, same)
turn_total clients (push q request) before after holds turn =
    let none = total_zero clients (λ c. 0) (λ c few. refl) in let same = ap (λ t. t.sent_back) turn.1 in omega (arith, none, same)

run_total : (clients : ℕ) (events : List Event) (before after : Turns) → Holds clients before → (run : Run events before after) → total clients (λ c. backs_in c events before after run) + before.sent_back ≡ after.sent_back
run_total clients [] before after holds (none turns) =
    let zero = total_zero clients (λ c. 0) (λ c few. refl) in omega (arith, zero)
run_total clients (event ∷ events) before after holds (more e es b between a turn run) =
    let one = turn_total clients event before between holds turn in
    let rest = run_total clients events between after (turn_holds clients event before between turn holds) run in
    let both = total_plus clients (λ c. backs_by c event before between) (λ c. backs_in c events between after run) in
    omega (arith, one, rest, both)

pub sends_all_back : (turns : Turns) → IsReached turns → turns.sent_back ≤ (length turns.plan - 1) * length turns.history
sends_all_back turns reached =
    let clients = length reached.plan in
    let start = opened reached.plan in
    let holds = reached_holds turns reached in
    let all = run_total clients reached.events start turns (opened_holds reached.plan) reached.run in
    let each = total_le clients (λ c. backs_in c reached.events start turns reached.run) (λ c. done_by_others c turns.history) (λ c.
    let few = backs_few clients reached.events start turns (opened_holds reached.plan) reached.run c in
    let less = count_drop (is_done_by_other c) (begins_at c start) turns.history in
    omega (arith, few, less)) in
    let bound = total_done clients turns.history holds.known in
    let here : turns.sent_back ≤ (clients - 1) * length turns.history = omega (arith, all, each, bound) in
    subst (λ n. turns.sent_back ≤ (n - 1) * length turns.history) (sym holds.planned) here
