-- What a line adds, by what was read of it.
use Rattle.std.proofs.Common.{◌≡◌, inl, inr, Bool, true, false, ℕ, List, Ok, Err, Some, None, refl, sym, subst, ◌∙◌}
use Rattle.std.specs.Prelude.{Option, Result, is_some, not}
use Rattle.std.specs.Str.{bytes_eq}
use Rattle.std.proofs.lemmas.Bool.{false≢true}
use Rattle.std.proofs.lemmas.Slice.Eq.{bytes_eq-Decides}
use Rattle.sea_script.specs.declared.asked.Asked.{Asked}
use Rattle.sea_script.specs.declared.event.Event.{Event}
use Rattle.sea_script.specs.declared.fault.LineFault.{LineFault}
use Rattle.sea_script.specs.declared.fault.LineFault.TheVariants.{NoMemory, Why}
use Rattle.sea_script.specs.declared.script.ScriptWhy.{ScriptWhy}
use Rattle.sea_script.specs.declared.script.ScriptWhy.TheVariants.{TooLong, BadText, ScheduleInRun, BadEvent, BadClient, BadOp, BadName, BadNumber, BadHex, TooManyOps, BadRange, BadValue, TooManyBlocks, TooManyKeys, TooManyRequests, TooMuchRead}
use Rattle.sea_script.specs.ReadingLines.{AddsLine, AddsRequest, ReadsEvents, ReadsRequest}
use Rattle.sea_script.specs.Script.{Asks, Given, IsFilled, IsForRequest, IsNoRequest, IsRefusedFor, words}

-- words that stand for no events
pub events_refused : (scheduled : Bool) (line : List ℕ) (given new : Given) (old : List Event) (fault : LineFault) → IsFilled line → given.events ≡ Some old → ReadsEvents (words line) (Err fault) → AddsLine scheduled line given new (Err fault)
events_refused scheduled line given new old NoMemory filled has fails = tt
events_refused scheduled line given new old (Why why) filled has fails =
    subst (λ w. IsRefusedFor w scheduled line given) (sym fails.1) (old, filled, has, fails.0)

no_request : (why : ScriptWhy) (scheduled : Bool) (line : List ℕ) (given : Given) → IsForRequest given line → IsNoRequest why (words line) given → IsRefusedFor why scheduled line given
no_request BadText scheduled line given before none = absurd none
no_request ScheduleInRun scheduled line given before none = absurd none
no_request BadEvent scheduled line given before none = absurd none
no_request TooLong scheduled line given before none = absurd none
no_request BadClient scheduled line given before none = (before, none)
no_request BadOp scheduled line given before none = (before, none)
no_request BadName scheduled line given before none = (before, none)
no_request BadNumber scheduled line given before none = (before, none)
no_request BadHex scheduled line given before none = (before, none)
no_request TooManyOps scheduled line given before none = (before, none)
no_request BadRange scheduled line given before none = (before, none)
no_request BadValue scheduled line given before none = (before, none)
no_request TooManyBlocks scheduled line given before none = (before, none)
no_request TooManyKeys scheduled line given before none = (before, none)
no_request TooManyRequests scheduled line given before none = (before, none)
no_request TooMuchRead scheduled line given before none = (before, none)

-- words that ask for no request
pub request_refused : (scheduled : Bool) (line : List ℕ) (given new : Given) (fault : LineFault) → IsForRequest given line → ReadsRequest (words line) given (Err fault) → AddsLine scheduled line given new (Err fault)
request_refused scheduled line given new NoMemory before fails = tt
request_refused scheduled line given new (Why why) before fails = no_request why scheduled line given before fails

-- a request that is asked for
pub request_added : (scheduled : Bool) (line : List ℕ) (given new : Given) (asked : Asked) (result : Result (Unit {0}) LineFault) → IsForRequest given line → Asks (words line) asked → AddsRequest asked given new result → AddsLine scheduled line given new result
request_added scheduled line given new asked (Ok done) before asks adds = inr (inl (asked, before, asks, adds.0, adds.1, adds.2))
request_added scheduled line given new asked (Err NoMemory) before asks adds = tt
request_added scheduled line given new asked (Err (Why why)) before asks (inl late) =
    subst (λ w. IsRefusedFor w scheduled line given) (sym late.0) (before, (asked, asks, late.1))
request_added scheduled line given new asked (Err (Why why)) before asks (inr heavy) =
    subst (λ w. IsRefusedFor w scheduled line given) (sym heavy.0) (before, (asked, asks, heavy.1, heavy.2))

-- ---- tests

false_from_not : (b : Bool) → true ≡ not b → b ≡ false
false_from_not true test = absurd (false≢true (sym test))
false_from_not false test = refl

pub other_line : (line text word : List ℕ) → true ≡ not (bytes_eq line text) → text ≡ word → line ≡ word → ⊥
other_line line text word test is same =
    false≢true (sym (false_from_not (bytes_eq line text) test) ∙ (bytes_eq-Decides line text).1 (same ∙ sym is))

pub some_of : {X : Type 0} (o : Option X) → is_some o ≡ true → (x : X) × (o ≡ Some x)
some_of None test = absurd (false≢true test)
some_of (Some x) test = (x, refl)

pub none_of : {X : Type 0} (o : Option X) → is_some o ≡ false → o ≡ None
none_of None test = refl
none_of (Some x) test = absurd (false≢true (sym test))
