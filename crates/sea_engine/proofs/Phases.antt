-- Where clients stand once one of them is in another phase, and whether it has a request left then.
use Rattle.std.proofs.Common.{◌≡◌, ◌≢◌, ℕ, zero, suc, ◌+◌, ◌-◌, ◌<◌, ◌≤◌, inl, inr, List, [], ◌∷◌, length, get_or, set, map, Option, Some, None, refl, sym, ap, ◌∙◌, subst, arith}
use Rattle.std.specs.Prelude.{slice_get}
use Rattle.std.proofs.lemmas.List.{get_or-set_same, get_or-set_other, get_or_past}
use Rattle.std.proofs.lemmas.Bool.{cases_lt}
use Rattle.sea_object.specs.declared.op.Op.{Op}
use Rattle.sea_object.specs.declared.reply.Reply.{Reply}
use Rattle.sea_history.specs.Plan.{Requests}
use Rattle.sea_engine.specs.Turns.{Phase, idle, waiting, running, ready, at_rest, first_phase, woken}

-- lists whose places count from 1, with something before the first
pub here : {X : Type 0} (xs : List X) (c : ℕ) (x d : X) → 1 ≤ c → c ≤ length xs → get_or (d ∷ set xs (c - 1) x) c d ≡ x
here xs zero x d some few = absurd (omega arith)
here xs (suc c) x d some few =
    let e : suc c - 1 ≡ c = omega arith in
    ap (λ i. get_or (set xs i x) c d) e ∙ get_or-set_same xs c x d (omega arith)

pub elsewhere : {X : Type 0} (xs : List X) (q c : ℕ) (x d : X) → 1 ≤ c → q ≢ c → get_or (d ∷ set xs (c - 1) x) q d ≡ get_or (d ∷ xs) q d
elsewhere xs zero c x d some apart = refl
elsewhere xs (suc q) c x d some apart =
    let other : q ≢ c - 1 = λ same. apart (omega (arith, same)) in
    get_or-set_other xs (c - 1) q x d other

-- who isn't idle is a client
pub at_work : (phases : List Phase) (c : ℕ) → get_or (idle ∷ phases) c idle ≢ idle → (1 ≤ c) × (c ≤ length phases)
at_work phases zero not_idle = absurd (not_idle refl)
at_work phases (suc c) not_idle =
    elim (cases_lt c (length phases)) [
      | inl within ↦ (omega arith, omega arith)
      | inr past ↦ absurd (not_idle (get_or_past phases c idle past))
    ]

-- ---- requests left

-- a phase fits so many entries of the client, of so many requests, in a history of this length
abbrev pub Stands : Phase → ℕ → ℕ → ℕ → Type 0
Stands idle served asked long = served ≡ asked
Stands waiting served asked long = served < asked
Stands (running done began) served asked long = (served < asked) × (began ≤ long)
Stands (ready began reply) served asked long = (served < asked) × (began ≤ long)

more_left : (next : Option (List Op)) (served asked long : ℕ) → Stands (at_rest next) served asked long → Stands (at_rest next) (suc served) (suc asked) long
more_left None served asked long stands = ap suc stands
more_left (Some request) served asked long stands = omega (arith, stands)

pub rest_stands : (requests : List (List Op)) (served long : ℕ) → served ≤ length requests → Stands (at_rest (slice_get requests served)) served (length requests) long
rest_stands [] zero long few = refl
rest_stands [] (suc n) long few = absurd (omega arith)
rest_stands (r ∷ rs) zero long few = omega arith
rest_stands (r ∷ rs) (suc n) long few = more_left (slice_get rs n) n (length rs) long (rest_stands rs n long (omega arith))

pub first_stands : (plan : Requests) (c : ℕ) → Stands (get_or (map first_phase plan) c idle) 0 (length (get_or plan c [])) 0
first_stands [] c = refl
first_stands (rs ∷ plan) zero = rest_stands rs 0 0 (omega arith)
first_stands (rs ∷ plan) (suc c) = first_stands plan c

pub stands_longer : (phase : Phase) (served asked long more : ℕ) → long ≤ more → Stands phase served asked long → Stands phase served asked more
stands_longer idle served asked long more grows stands = stands
stands_longer waiting served asked long more grows stands = stands
stands_longer (running done began) served asked long more grows stands = (stands.0, omega (arith, stands.1))
stands_longer (ready began reply) served asked long more grows stands = (stands.0, omega (arith, stands.1))

pub stands_woken : (phase : Phase) (served asked long : ℕ) → Stands phase served asked long → Stands (woken phase) served (asked + 1) long
stands_woken idle served asked long stands = omega (arith, stands)
stands_woken waiting served asked long stands = omega (arith, stands)
stands_woken (running done began) served asked long stands = (omega (arith, stands.0), stands.1)
stands_woken (ready began reply) served asked long stands = (omega (arith, stands.0), stands.1)

pub served_few : (phase : Phase) (served asked long : ℕ) → Stands phase served asked long → served ≤ asked
served_few idle served asked long stands = omega (arith, stands)
served_few waiting served asked long stands = omega (arith, stands)
served_few (running done began) served asked long stands = omega (arith, stands.0)
served_few (ready began reply) served asked long stands = omega (arith, stands.0)

pub idle_served : (phase : Phase) (served asked long : ℕ) → Stands phase served asked long → phase ≡ idle → served ≡ asked
idle_served phase served asked long stands is = subst (λ p. Stands p served asked long) is stands

pub served_idle : (phase : Phase) (served asked long : ℕ) → Stands phase served asked long → served ≡ asked → phase ≡ idle
served_idle idle served asked long stands all = refl
served_idle waiting served asked long stands all = absurd (omega (arith, stands, all))
served_idle (running done began) served asked long stands all = absurd (omega (arith, stands.0, all))
served_idle (ready began reply) served asked long stands all = absurd (omega (arith, stands.0, all))

pub left_over : (phase : Phase) (served asked long : ℕ) → Stands phase served asked long → phase ≢ idle → served < asked
left_over idle served asked long stands not_idle = absurd (not_idle refl)
left_over waiting served asked long stands not_idle = stands
left_over (running done began) served asked long stands not_idle = stands.0
left_over (ready began reply) served asked long stands not_idle = stands.0

-- phases that tell themselves apart
abbrev is_at_work : Phase → ℕ
is_at_work idle = 0
is_at_work waiting = 1
is_at_work (running done began) = 1
is_at_work (ready began reply) = 1

pub not_waiting : (phase : Phase) → phase ≡ waiting → phase ≢ idle
not_waiting phase is is_idle = let e = ap is_at_work (sym is ∙ is_idle) in absurd (omega (arith, e))

pub not_running : (phase : Phase) (done began : ℕ) → phase ≡ running done began → phase ≢ idle
not_running phase done began is is_idle = let e = ap is_at_work (sym is ∙ is_idle) in absurd (omega (arith, e))

pub not_ready : (phase : Phase) (began : ℕ) (reply : Reply) → phase ≡ ready began reply → phase ≢ idle
not_ready phase began reply is is_idle = let e = ap is_at_work (sym is ∙ is_idle) in absurd (omega (arith, e))
