-- An input is a script of one kind, or has one first line that is refused.
use Rattle.std.proofs.Common.{◌≡◌, ◌==◌, inl, inr, Bool, ℕ, zero, suc, ◌+◌, ◌-◌, ◌≤◌, List, [], ◌∷◌, ◌++◌, length, take, drop, Err, Some, add-one, refl, sym, ap, subst, ◌∙◌, arith}
use Rattle.std.specs.Prelude.{slice_get, unwrap_or}
use Rattle.std.proofs.lemmas.List.Splits.{length-slice_split}
use Rattle.std.proofs.lemmas.List.Sums.{count_by-le-length}
use Rattle.std.proofs.lemmas.Grind.{common_steps}
use Rattle.sea_history.specs.Plan.{Requests}
use Rattle.sea_script.specs.declared.event.Event.{Event}
use Rattle.sea_script.specs.declared.fault.LineFault.{LineFault}
use Rattle.sea_script.specs.declared.fault.LineFault.TheVariants.{NoMemory, Why}
use Rattle.sea_script.specs.declared.script.Script.{Script}
use Rattle.sea_script.specs.declared.script.ScriptFault.{ScriptFault}
use Rattle.sea_script.specs.declared.script.ScriptFault.TheVariants.{NoMemory as NoMemoryAt, Refused}
use Rattle.sea_script.specs.declared.script.ScriptWhy.{ScriptWhy}
use Rattle.sea_script.specs.ReadingLines.{AddsLine, fault_at}
use Rattle.sea_script.specs.Script.{AllGive, Given, Gives, IsRefusal, IsRefusedFor, IsScript, lines, nothing, plan_of}
use Rattle.sea_script.proofs.Exclusive.{one_gives, refused_or_gives}

-- ---- lines one after the other

give_more : (s : Bool) (ls : List (List ℕ)) (line : List ℕ) (a b c : Given) → AllGive s ls a b → Gives s line b c → AllGive s (ls ++ line ∷ []) a c
give_more s [] line a b c all gives = (c, subst (λ g. Gives s line g c) all gives, refl)
give_more s (l ∷ ls) line a b c all gives = (all.0, all.1, give_more s ls line all.0 b c all.2 gives)

one_given : (s : Bool) (ls : List (List ℕ)) (a b c : Given) → AllGive s ls a b → AllGive s ls a c → b ≡ c
one_given s [] a b c all_b all_c = all_b ∙ sym all_c
one_given s (l ∷ ls) a b c all_b all_c =
    let next = one_gives s l a all_b.0 all_c.0 all_b.1 all_c.1 in
    one_given s ls all_c.0 b c (subst (λ g. AllGive s ls g b) next all_b.2) all_c.2

-- lines that all give something have none that is refused
none_refused : (s : Bool) (ls : List (List ℕ)) (i : ℕ) (line : List ℕ) (why : ScriptWhy) (a last before : Given) → AllGive s ls a last → AllGive s (take i ls) a before → slice_get ls i ≡ Some line → IsRefusedFor why s line before → ⊥
none_refused s [] i line why a last before all front here refused = cc
none_refused s (l ∷ ls) zero line why a last before all front here refused =
    let same : l ≡ line = cc in
    refused_or_gives why s line a all.0 (subst (IsRefusedFor why s line) front refused) (subst (λ x. Gives s x a all.0) same all.1)
none_refused s (l ∷ ls) (suc i) line why a last before all front here refused =
    let next = one_gives s l a front.0 all.0 front.1 all.1 in
    none_refused s ls i line why all.0 last before all.2 (subst (λ g. AllGive s (take i ls) g before) next front.2) here refused

-- ---- reading line by line

-- there is one line more than ends of lines
pub lines_few : (input : List ℕ) → length (lines input) ≤ length input + 1
lines_few input = omega (arith, length-slice_split (λ b. b == 10) input, count_by-le-length (λ b. b == 10) input)

-- the line behind those that were read
record LineAt (ls : List (List ℕ)) (n : ℕ) (line : List ℕ) (rest : List (List ℕ)) : Type 0 where
  here : slice_get ls n ≡ Some line
  taken : take (suc n) ls ≡ take n ls ++ line ∷ []
  rest_is : rest ≡ drop (suc n) ls

line_at : (ls : List (List ℕ)) (n : ℕ) (line : List ℕ) (rest : List (List ℕ)) → drop n ls ≡ line ∷ rest → LineAt ls n line rest
line_at [] zero line rest same = cc
line_at [] (suc n) line rest same = cc
line_at (l ∷ ls) zero line rest same =
    let head : l ≡ line = cc in
    let tails : ls ≡ rest = cc in
    record { here = ap Some head; taken = ap (λ x. x ∷ []) head; rest_is = sym tails }
line_at (l ∷ ls) (suc n) line rest same =
    let others = line_at ls n line rest same in
    record { here = others.here; taken = ap (λ xs. l ∷ xs) others.taken; rest_is = others.rest_is }

-- what is given behind one more line
pub next_line : (s : Bool) (ls : List (List ℕ)) (n : ℕ) (line : List ℕ) (rest : List (List ℕ)) (old new : Given) → drop n ls ≡ line ∷ rest → AllGive s (take n ls) nothing old → Gives s line old new → (rest ≡ drop (n + 1) ls) × AllGive s (take (n + 1) ls) nothing new
next_line s ls n line rest old new same all gives =
    let at = line_at ls n line rest same in
    rw add-one (at.rest_is, rw at.taken (give_more s (take n ls) line nothing old new all gives))

-- a line's fault is one of the input
pub fault_of_line : (s : Bool) (input : List ℕ) (n : ℕ) (line : List ℕ) (rest : List (List ℕ)) (given new : Given) (fault : LineFault) → length input ≤ 67108864 → drop n (lines input) ≡ line ∷ rest → AllGive s (take n (lines input)) nothing given → AddsLine s line given new (Err fault) → IsRefusal s input (fault_at (n + 1) fault)
fault_of_line s input n line rest given new NoMemory short same all adds = tt
fault_of_line s input n line rest given new (Why why) short same all adds =
    let at = line_at (lines input) n line rest same in
    let back : n + 1 - 1 ≡ n = omega arith in
    inr (
      short,
      record {
        counted = omega arith;
        before = given;
        give = rw back all;
        line = line;
        here = rw back at.here;
        refused = adds;
      },
    )

-- a script is not refused
pub only_memory : (s : Bool) (input : List ℕ) (fault : ScriptFault) → IsRefusal s input fault → (script : Script) → IsScript s input script → fault ≡ NoMemoryAt
only_memory s input NoMemoryAt refusal script is = refl
only_memory s input (Refused number why) refusal script is =
    elim refusal [
      | inl long ↦ absurd (omega (arith, long.2, is.short))
      | inr other ↦ absurd (none_refused s (lines input) (number - 1) other.1.line why nothing is.given other.1.before is.give other.1.give other.1.here other.1.refused)
    ]

abbrev made : Requests → List Event → Script
made plan events = record { plan = plan; events = events }

-- an input spells one script
pub one_script : (s : Bool) (input : List ℕ) (a b : Script) → IsScript s input a → IsScript s input b → a ≡ b
one_script s input a b is_a is_b =
    let given = one_given s (lines input) nothing is_a.given is_b.given is_a.give is_b.give in
    let plans = is_a.plan ∙ ap (λ g. plan_of g.asked) given ∙ sym is_b.plan in
    let events = is_a.events ∙ ap (λ g. unwrap_or g.events []) given ∙ sym is_b.events in
    ap (λ p. made p a.events) plans ∙ ap (made b.plan) events

-- all lines were read
pub whole_script : (s : Bool) (input : List ℕ) (n : ℕ) (given : Given) (script : Script) → length input ≤ 67108864 → n ≡ length (lines input) → AllGive s (take n (lines input)) nothing given → script.plan ≡ plan_of given.asked → script.events ≡ unwrap_or given.events [] → IsScript s input script
whole_script s input n given script short all give plan events =
    let whole : take n (lines input) ≡ lines input = grind (arith, common_steps) in
    record {
      short = short;
      given = given;
      give = subst (λ ls. AllGive s ls nothing given) whole give;
      plan = plan;
      events = events;
    }
