-- A line that gives something isn't refused, and gives one thing.
use Rattle.std.proofs.Common.{◌≡◌, inl, inr, Bool, false, ℕ, zero, suc, ◌-◌, List, [], ◌∷◌, ◌++◌, length, Some, refl, sym, ap, subst, ◌∙◌, arith}
use Rattle.std.specs.Prelude.{map, slice_get, codes}
use Rattle.std.specs.List.{AllByRecursion}
use Rattle.std.proofs.lemmas.Bool.{false≢true}
use Rattle.std.proofs.lemmas.List.{length-map}
use Rattle.sea_object.specs.declared.op.Op.{Op}
use Rattle.sea_object.specs.declared.request.RequestFault.{RequestFault}
use Rattle.sea_object.specs.declared.request.RequestFault.TheVariants as fault
use Rattle.sea_object.specs.Op.{IsWithinLimits}
use Rattle.sea_object.specs.Request.{IsRequest}
use Rattle.sea_object.specs.Refusal.{Refuses}
use Rattle.sea_script.specs.declared.argument.Argument.{Argument}
use Rattle.sea_script.specs.declared.asked.Asked.{Asked}
use Rattle.sea_script.specs.declared.event.Event.{Event}
use Rattle.sea_script.specs.declared.script.ScriptWhy.{ScriptWhy}
use Rattle.sea_script.specs.declared.script.ScriptWhy.TheVariants.{TooLong, BadText, ScheduleInRun, BadEvent, BadClient, BadOp, BadName, BadNumber, BadHex, TooManyOps, BadRange, BadValue, TooManyBlocks, TooManyKeys, TooManyRequests, TooMuchRead}
use Rattle.sea_script.specs.Argument.{IsArgument, IsFirstBad, argument_text, kinds}
use Rattle.sea_script.specs.Operation.{IsFirstFault, IsOpFault, Spells, arguments, verb_of}
use Rattle.sea_script.specs.Script.{Asks, Given, Gives, HasNoEvent, HasOpFault, HasRequestFault, HasTurn, HasWeight, IsBefore, IsBlank, IsFilled, IsForRequest, IsNoRequest, IsRefusedFor, IsText, OneByOne, StandsFor, parts, words}
use Rattle.sea_script.specs.Table.{IsCount, kinds_for, word_of}
use Rattle.sea_script.proofs.Operations.{one_verb}
use Rattle.sea_script.proofs.Unique.{one_asked, one_by_one, one_client, one_event, one_op}

-- ---- operations

none_bad : (all : List Argument) (why : ScriptWhy) → AllByRecursion IsArgument all → IsFirstBad (kinds all) (map argument_text all) why → ⊥
none_bad [] why good bad = bad
none_bad (a ∷ all) why good (inl bad) = bad.0 (a, good.0, refl, refl)
none_bad (a ∷ all) why good (inr bad) = none_bad all why good.1 bad.1

op_or_fault : (words : List (List ℕ)) (op : Op) (why : ScriptWhy) → Spells words op → IsOpFault words why → ⊥
op_or_fault words op why spells (inl none) =
    none.0 (verb_of op) (map argument_text (arguments op)) (record {
      words_are = spells.words_are;
      counted = subst (IsCount (verb_of op)) (sym (length-map (arguments op) argument_text)) spells.counted;
    })
op_or_fault words op why spells (inr bad) =
    let called = bad.0 in
    let others = bad.1 in
    let form = bad.2 in
    let heads : word_of called ≡ word_of (verb_of op) = cc (form.words_are, spells.words_are) in
    let texts : others ≡ map argument_text (arguments op) = cc (form.words_are, spells.words_are) in
    let same = one_verb called (verb_of op) heads in
    let long : length others ≡ length (arguments op) = ap length texts ∙ length-map (arguments op) argument_text in
    let kinds_are : kinds_for called (length others) ≡ kinds (arguments op) = ap (λ v. kinds_for v (length others)) same ∙ ap (kinds_for (verb_of op)) long ∙ sym spells.listed in
    none_bad (arguments op) why spells.good (subst (λ ws. IsFirstBad (kinds (arguments op)) ws why) texts (subst (λ ks. IsFirstBad ks others why) kinds_are bad.3))

ops_or_fault : (all : List (List (List ℕ))) (ops : List Op) (why : ScriptWhy) → OneByOne Spells all ops → IsFirstFault all why → ⊥
ops_or_fault [] ops why each is = is
ops_or_fault (part ∷ all) [] why each is = each
ops_or_fault (part ∷ all) (op ∷ ops) why each (inl is) = op_or_fault part op why each.0 is
ops_or_fault (part ∷ all) (op ∷ ops) why each (inr is) = ops_or_fault all ops why each.1 is.1

asks_or_fault : (said : List (List ℕ)) (asked : Asked) (why : ScriptWhy) → Asks said asked → HasOpFault said why → ⊥
asks_or_fault said asked why asks is =
    let front = one_client said asked.client is.0 asks.0.0 is.1 asks.0.1.0 is.2.0 asks.0.1.1 is.2.1 in
    ops_or_fault (parts asks.0.0) asked.request why asks.0.2 (subst (λ xs. IsFirstFault (parts xs) why) (sym front.1) is.3)

-- ---- requests

all_at : {X : Type 0} (P : X → Type 0) (xs : List X) (i : ℕ) (x : X) → AllByRecursion P xs → slice_get xs i ≡ Some x → P x
all_at P [] i x all here = cc
all_at P (y ∷ ys) zero x all here = let same : y ≡ x = cc in subst P same all.0
all_at P (y ∷ ys) (suc i) x all here = all_at P ys i x all.1 here

-- operations that are refused are no request
request_or_fault : (ops : List Op) (why : RequestFault) → IsRequest ops → Refuses ops why → ⊥
request_or_fault ops fault.Empty is refuses = let none : length ops ≡ 0 = ap length refuses in omega (arith, none, is.some)
request_or_fault ops fault.TooManyOps is refuses = omega (arith, refuses, is.few)
request_or_fault ops (fault.BadRange number) is refuses =
    let beyond = refuses.1.beyond in beyond.2 (all_at IsWithinLimits ops (number - 1) beyond.0 is.each beyond.1).0
request_or_fault ops (fault.BadValue number) is refuses =
    let beyond = refuses.1.beyond in beyond.2.1 (all_at IsWithinLimits ops (number - 1) beyond.0 is.each beyond.1).1
request_or_fault ops fault.TooManyBlocks is refuses = omega (arith, refuses.2, is.blocks)
request_or_fault ops fault.TooManyKeys is refuses = omega (arith, refuses.3, is.keys)

asks_or_refused : (said : List (List ℕ)) (asked : Asked) (why : RequestFault) → Asks said asked → HasRequestFault said why → ⊥
asks_or_refused said asked why asks is =
    let spelled = is.2 in
    let front = one_client said asked.client is.0 asks.0.0 spelled.0 asks.0.1.0 spelled.1.0 asks.0.1.1 spelled.1.1 in
    let ops = one_by_one Spells one_op (parts asks.0.0) asked.request is.1 asks.0.2 (subst (λ xs. OneByOne Spells (parts xs) is.1) (sym front.1) spelled.2) in
    request_or_fault asked.request why asks.1 (subst (λ xs. Refuses xs why) (sym ops) is.3)

asks_or_none : (why : ScriptWhy) (said : List (List ℕ)) (given : Given) (asked : Asked) → Asks said asked → HasTurn given asked → HasWeight given asked → IsNoRequest why said given → ⊥
asks_or_none TooLong said given asked asks turn weight none = none
asks_or_none BadText said given asked asks turn weight none = none
asks_or_none ScheduleInRun said given asked asks turn weight none = none
asks_or_none BadEvent said given asked asks turn weight none = none
asks_or_none BadClient said given asked asks turn weight none = none asked.client asks.0.0 asks.0.1
asks_or_none BadOp said given asked asks turn weight none = asks_or_fault said asked BadOp asks none
asks_or_none BadName said given asked asks turn weight none = asks_or_fault said asked BadName asks none
asks_or_none BadNumber said given asked asks turn weight none = asks_or_fault said asked BadNumber asks none
asks_or_none BadHex said given asked asks turn weight none = asks_or_fault said asked BadHex asks none
asks_or_none TooManyOps said given asked asks turn weight none = asks_or_refused said asked fault.TooManyOps asks none
asks_or_none BadRange said given asked asks turn weight none = asks_or_refused said asked (fault.BadRange none.0) asks none.1
asks_or_none BadValue said given asked asks turn weight none = asks_or_refused said asked (fault.BadValue none.0) asks none.1
asks_or_none TooManyBlocks said given asked asks turn weight none = asks_or_refused said asked fault.TooManyBlocks asks none
asks_or_none TooManyKeys said given asked asks turn weight none = asks_or_refused said asked fault.TooManyKeys asks none
asks_or_none TooManyRequests said given asked asks turn weight none =
    none.2 (subst (HasTurn given) (one_asked said asked none.0 asks none.1) turn)
asks_or_none TooMuchRead said given asked asks turn weight none =
    none.3 (subst (HasWeight given) (one_asked said asked none.0 asks none.1) weight)

-- ---- events

events_or_none : (said : List (List ℕ)) (events : List Event) → OneByOne StandsFor said events → HasNoEvent said → ⊥
events_or_none [] events each none = none
events_or_none (word ∷ said) [] each none = each
events_or_none (word ∷ said) (event ∷ events) each (inl none) = none event each.0
events_or_none (word ∷ said) (event ∷ events) each (inr none) = events_or_none said events each.1 none

-- ---- lines

-- a reason of a request's line
late_or_gives : (why : ScriptWhy) (scheduled : Bool) (line : List ℕ) (given new : Given) → IsForRequest given line → IsNoRequest why (words line) given → Gives scheduled line given new → ⊥
late_or_gives why scheduled line given new before none (inl gives) = before.0.0.0 gives.0
late_or_gives why scheduled line given new before none (inr (inl gives)) =
    asks_or_none why (words line) given gives.0 gives.2 gives.3 gives.4 none
late_or_gives why scheduled line given new before none (inr (inr (inl gives))) = before.1 gives.1
late_or_gives why scheduled line given new before none (inr (inr (inr gives))) =
    let some = gives.3 in let no = before.0.1 in cc

text_or_gives : (scheduled : Bool) (line : List ℕ) (given new : Given) → (IsBlank line → ⊥) → (IsText line → ⊥) → Gives scheduled line given new → ⊥
text_or_gives scheduled line given new filled none (inl gives) = filled gives.0
text_or_gives scheduled line given new filled none (inr (inl gives)) = none gives.1.0.0.1
text_or_gives scheduled line given new filled none (inr (inr (inl gives))) = none gives.0.0.1
text_or_gives scheduled line given new filled none (inr (inr (inr gives))) = none gives.2.1

run_or_gives : (scheduled : Bool) (line : List ℕ) (given new : Given) → IsBefore given line → line ≡ codes "schedule" → scheduled ≡ false → Gives scheduled line given new → ⊥
run_or_gives scheduled line given new before is run (inl gives) = before.0.0 gives.0
run_or_gives scheduled line given new before is run (inr (inl gives)) = gives.1.1 is
run_or_gives scheduled line given new before is run (inr (inr (inl gives))) = false≢true (sym run ∙ gives.2)
run_or_gives scheduled line given new before is run (inr (inr (inr gives))) =
    let some = gives.3 in let no = before.1 in cc

event_or_gives : (scheduled : Bool) (line : List ℕ) (given new : Given) (old : List Event) → IsFilled line → given.events ≡ Some old → HasNoEvent (words line) → Gives scheduled line given new → ⊥
event_or_gives scheduled line given new old filled has none (inl gives) = filled.0 gives.0
event_or_gives scheduled line given new old filled has none (inr (inl gives)) = let no = gives.1.0.1 in cc
event_or_gives scheduled line given new old filled has none (inr (inr (inl gives))) = let no = gives.0.1 in cc
event_or_gives scheduled line given new old filled has none (inr (inr (inr gives))) =
    events_or_none (words line) gives.1 gives.4 none

-- a line that is refused gives nothing
pub refused_or_gives : (why : ScriptWhy) (scheduled : Bool) (line : List ℕ) (given new : Given) → IsRefusedFor why scheduled line given → Gives scheduled line given new → ⊥
refused_or_gives BadText s line g new is gives = text_or_gives s line g new is.0 is.1 gives
refused_or_gives ScheduleInRun s line g new is gives = run_or_gives s line g new is.0 is.1 is.2 gives
refused_or_gives BadEvent s line g new is gives = event_or_gives s line g new is.0 is.1 is.2 is.3 gives
refused_or_gives TooLong s line g new is gives = is.1
refused_or_gives BadClient s line g new is gives = late_or_gives BadClient s line g new is.0 is.1 gives
refused_or_gives BadOp s line g new is gives = late_or_gives BadOp s line g new is.0 is.1 gives
refused_or_gives BadName s line g new is gives = late_or_gives BadName s line g new is.0 is.1 gives
refused_or_gives BadNumber s line g new is gives = late_or_gives BadNumber s line g new is.0 is.1 gives
refused_or_gives BadHex s line g new is gives = late_or_gives BadHex s line g new is.0 is.1 gives
refused_or_gives TooManyOps s line g new is gives = late_or_gives TooManyOps s line g new is.0 is.1 gives
refused_or_gives BadRange s line g new is gives = late_or_gives BadRange s line g new is.0 is.1 gives
refused_or_gives BadValue s line g new is gives = late_or_gives BadValue s line g new is.0 is.1 gives
refused_or_gives TooManyBlocks s line g new is gives = late_or_gives TooManyBlocks s line g new is.0 is.1 gives
refused_or_gives TooManyKeys s line g new is gives = late_or_gives TooManyKeys s line g new is.0 is.1 gives
refused_or_gives TooManyRequests s line g new is gives = late_or_gives TooManyRequests s line g new is.0 is.1 gives
refused_or_gives TooMuchRead s line g new is gives = late_or_gives TooMuchRead s line g new is.0 is.1 gives

same_events : (line : List ℕ) (given : Given) (x y : List Event) (old older : List Event) → given.events ≡ Some old → given.events ≡ Some older → OneByOne StandsFor (words line) x → OneByOne StandsFor (words line) y → old ++ x ≡ older ++ y
same_events line given x y old older has had each_x each_y =
    let before : old ≡ older = cc in
    let events = one_by_one StandsFor one_event (words line) x y each_x each_y in
    ap (λ es. es ++ x) before ∙ ap (λ es. older ++ es) events

-- a line gives one thing
pub one_gives : (scheduled : Bool) (line : List ℕ) (given a b : Given) → Gives scheduled line given a → Gives scheduled line given b → a ≡ b
one_gives s line g a b (inl x) (inl y) = x.1 ∙ sym y.1
one_gives s line g a b (inl x) (inr (inl y)) = absurd (y.1.0.0.0 x.0)
one_gives s line g a b (inl x) (inr (inr (inl y))) = absurd (y.0.0.0 x.0)
one_gives s line g a b (inl x) (inr (inr (inr y))) = absurd (y.2.0 x.0)
one_gives s line g a b (inr (inl x)) (inl y) = absurd (x.1.0.0.0 y.0)
one_gives s line g a b (inr (inl x)) (inr (inl y)) =
    x.5 ∙ ap (λ asked. record g { asked = g.asked ++ asked ∷ [] }) (one_asked (words line) x.0 y.0 x.2 y.2) ∙ sym y.5
one_gives s line g a b (inr (inl x)) (inr (inr (inl y))) = absurd (x.1.1 y.1)
one_gives s line g a b (inr (inl x)) (inr (inr (inr y))) = let no = x.1.0.1 in let some = y.3 in cc
one_gives s line g a b (inr (inr (inl x))) (inl y) = absurd (x.0.0.0 y.0)
one_gives s line g a b (inr (inr (inl x))) (inr (inl y)) = absurd (y.1.1 x.1)
one_gives s line g a b (inr (inr (inl x))) (inr (inr (inl y))) = x.3 ∙ sym y.3
one_gives s line g a b (inr (inr (inl x))) (inr (inr (inr y))) = let no = x.0.1 in let some = y.3 in cc
one_gives s line g a b (inr (inr (inr x))) (inl y) = absurd (x.2.0 y.0)
one_gives s line g a b (inr (inr (inr x))) (inr (inl y)) = let no = y.1.0.1 in let some = x.3 in cc
one_gives s line g a b (inr (inr (inr x))) (inr (inr (inl y))) = let no = y.0.1 in let some = x.3 in cc
one_gives s line g a b (inr (inr (inr x))) (inr (inr (inr y))) =
    x.5 ∙ ap (λ es. record g { events = Some es }) (same_events line g x.1 y.1 x.0 y.0 x.3 y.3 x.4 y.4) ∙ sym y.5
