-- The phases of clients, by their states.
use Rattle.std.proofs.Common.{◌≡◌, ◌≢◌, ℕ, zero, suc, ◌+◌, ◌-◌, ◌<◌, ◌≤◌, List, [], ◌∷◌, ◌++◌, length, get_or, set, take, refl, sym, ap, ◌∙◌, arith}
use Rattle.sea_engine.specs.Engine.{phase_at, phases_from, state_at}
use Rattle.std.specs.Prelude.{map, slice_get}
use Rattle.std.proofs.lemmas.List.{map-append, take_more}
use Rattle.sea_object.specs.declared.op.Op.{Op}
use Rattle.sea_history.specs.Plan.{Requests}
use Rattle.sea_history.proofs.Numbers.{requests_at}
use Rattle.sea_engine.specs.Turns.{Phase, idle, at_rest, first_phase, request_after}
use Rattle.sea_engine.specs.declared.state.ClientState.{ClientState}
use Rattle.sea_engine.specs.declared.state.ClientState.TheVariants.{Idle}
use Rattle.sea_object.specs.declared.reply.Reply.{Reply}
use Rattle.sea_transactions.specs.State.{Transaction}

-- one client more
pub phases_push : (from : ℕ) (states : List ClientState) (s : ClientState) (t : ℕ → Transaction) → phases_from from (states ++ s ∷ []) t ≡ phases_from from states t ++ phase_at s (t (from + length states)).reply ∷ []
phases_push from [] s t = let e : from ≡ from + 0 = omega arith in ap (λ (c : ℕ). phase_at s (t c).reply ∷ []) e
phases_push from (x ∷ xs) s t =
    let e : from + 1 + length xs ≡ from + suc (length xs) = omega arith in
    ap (λ ps. phase_at x (t from).reply ∷ ps) (phases_push (from + 1) xs s t ∙ ap (λ (c : ℕ). phases_from (from + 1) xs t ++ phase_at s (t c).reply ∷ []) e)

pub phases_length : (from : ℕ) (states : List ClientState) (t : ℕ → Transaction) → length (phases_from from states t) ≡ length states
phases_length from [] t = refl
phases_length from (x ∷ xs) t = ap suc (phases_length (from + 1) xs t)

-- the phase of a client
phase_get : (from c : ℕ) (states : List ClientState) (t : ℕ → Transaction) → get_or (phases_from from states t) c idle ≡ phase_at (get_or states c Idle) (t (from + c)).reply
phase_get from c [] t = refl
phase_get from zero (x ∷ xs) t = let e : from ≡ from + 0 = omega arith in ap (λ (c : ℕ). phase_at x (t c).reply) e
phase_get from (suc c) (x ∷ xs) t =
    let e : from + 1 + c ≡ from + suc c = omega arith in
    phase_get (from + 1) c xs t ∙ ap (λ (k : ℕ). phase_at (get_or xs c Idle) (t k).reply) e

pub phase_is : (client : ℕ) (states : List ClientState) (t : ℕ → Transaction) → get_or (idle ∷ phases_from 1 states t) client idle ≡ phase_at (state_at states client) (t client).reply
phase_is zero states t = refl
phase_is (suc c) states t =
    let e : 1 + c ≡ suc c = omega arith in
    phase_get 1 c states t ∙ ap (λ (k : ℕ). phase_at (get_or states c Idle) (t k).reply) e

-- where replies are the same, but for one client that has another state now
phases_other : (from : ℕ) (states : List ClientState) (a b : ℕ → Transaction) → ((c : ℕ) → from ≤ c → (b c).reply ≡ (a c).reply) → phases_from from states b ≡ phases_from from states a
phases_other from [] a b same = refl
phases_other from (x ∷ xs) a b same =
    let here = same from (omega arith) in
    ap (λ (r : Reply). phase_at x r ∷ phases_from (from + 1) xs b) here ∙ ap (λ ps. phase_at x (a from).reply ∷ ps) (phases_other (from + 1) xs a b (λ c le. same c (omega (arith, le))))

phases_at : (from k : ℕ) (states : List ClientState) (s : ClientState) (a b : ℕ → Transaction) → k < length states → ((c : ℕ) → c ≢ from + k → (b c).reply ≡ (a c).reply) → phases_from from (set states k s) b ≡ set (phases_from from states a) k (phase_at s (b (from + k)).reply)
phases_at from k [] s a b within same = absurd (omega arith)
phases_at from zero (x ∷ xs) s a b within same =
    let here : from ≡ from + 0 = omega arith in
    ap (λ (c : ℕ). phase_at s (b c).reply ∷ phases_from (from + 1) xs b) here ∙ ap (λ ps. phase_at s (b (from + 0)).reply ∷ ps) (phases_other (from + 1) xs a b (λ c le. same c (λ e. omega (arith, le, e))))
phases_at from (suc k) (x ∷ xs) s a b within same =
    let e : from + 1 + k ≡ from + suc k = omega arith in
    let here = same from (λ is. omega (arith, is)) in
    ap (λ (r : Reply). phase_at x r ∷ phases_from (from + 1) (set xs k s) b) here
    ∙ ap (λ ps. phase_at x (a from).reply ∷ ps) (phases_at (from + 1) k xs s a b (omega (arith, within)) (λ c other. same c (λ is. other (is ∙ sym e))) ∙ ap (λ (c : ℕ). set (phases_from (from + 1) xs a) k (phase_at s (b c).reply)) e)

pub phases_step : (client : ℕ) (states : List ClientState) (s : ClientState) (a b : ℕ → Transaction) → 1 ≤ client → client ≤ length states → ((c : ℕ) → c ≢ client → (b c).reply ≡ (a c).reply) → phases_from 1 (set states (client - 1) s) b ≡ set (phases_from 1 states a) (client - 1) (phase_at s (b client).reply)
phases_step client states s a b some few same =
    let e : 1 + (client - 1) ≡ client = omega arith in
    phases_at 1 (client - 1) states s a b (omega arith) (λ c other. same c (λ is. other (is ∙ sym e))) ∙ ap (λ (c : ℕ). set (phases_from 1 states a) (client - 1) (phase_at s (b c).reply)) e

pub phases_same : (states : List ClientState) (a b : ℕ → Transaction) → ((c : ℕ) → (b c).reply ≡ (a c).reply) → phases_from 1 states b ≡ phases_from 1 states a
phases_same states a b same = phases_other 1 states a b (λ c le. same c)

-- the phase of a client of whose requests none is entered
first_at : (plan : Requests) (i : ℕ) → request_after (i + 1) 0 plan ≡ slice_get (get_or plan i []) 0
first_at plan i =
    let e : i + 1 - 1 ≡ i = omega arith in
    ap (λ (rs : List (List Op)). slice_get rs 0) (requests_at plan (i + 1) (omega arith) ∙ ap (λ (k : ℕ). get_or plan k []) e)

pub phases_more : (plan : Requests) (i : ℕ) (states : List ClientState) (s : ClientState) (t : ℕ → Transaction) → i < length plan → phases_from 1 states t ≡ map first_phase (take i plan) → ((reply : Reply) → phase_at s reply ≡ at_rest (request_after (i + 1) 0 plan)) → phases_from 1 (states ++ s ∷ []) t ≡ map first_phase (take (i + 1) plan)
phases_more plan i states s t within before rest =
    let r = (t (1 + length states)).reply in
    phases_push 1 states s t
    ∙ ap (λ ps. ps ++ phase_at s r ∷ []) before
    ∙ ap (λ (p : Phase). map first_phase (take i plan) ++ p ∷ []) (rest r ∙ ap at_rest (first_at plan i))
    ∙ sym (map-append first_phase (take i plan) (get_or plan i [] ∷ []))
    ∙ sym (ap (map first_phase) (take_more plan i [] within))
