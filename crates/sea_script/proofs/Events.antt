-- Events read one after the other.
use Rattle.std.proofs.Common.{inl, inr, ℕ, zero, suc, ◌<◌, ◌≤◌, List, [], ◌∷◌, ◌++◌, length, take, get_or, arith}
use Rattle.std.specs.Borrow.{Bor}
use Rattle.sea_script.specs.declared.event.Event.{Event}
use Rattle.sea_script.specs.Reading.{seen}
use Rattle.sea_script.specs.Script.{HasNoEvent, OneByOne, StandsFor}

-- a word that stands for none
pub has_none : (words : List (Bor (List ℕ))) (i : ℕ) (d : Bor (List ℕ)) → i < length words → ((event : Event) → StandsFor (get_or words i d).now event → ⊥) → HasNoEvent (seen words)
has_none [] i d within none = absurd (omega arith)
has_none (w ∷ words) zero d within none = inl none
has_none (w ∷ words) (suc i) d within none = inr (has_none words i d (omega arith) none)

-- one more word, which stands for one
pub event_more : (words : List (Bor (List ℕ))) (i : ℕ) (d : Bor (List ℕ)) (events : List Event) (event : Event) → i < length words → OneByOne StandsFor (seen (take i words)) events → StandsFor (get_or words i d).now event → OneByOne StandsFor (seen (take (suc i) words)) (events ++ event ∷ [])
event_more [] i d events event within each this = absurd (omega arith)
event_more (w ∷ words) zero d [] event within each this = (this, tt)
event_more (w ∷ words) zero d (e ∷ events) event within each this = absurd each
event_more (w ∷ words) (suc i) d [] event within each this = absurd each
event_more (w ∷ words) (suc i) d (e ∷ events) event within each this =
    (each.0, event_more words i d events event (omega arith) each.1 this)

-- all of them
pub events_all : (words : List (Bor (List ℕ))) (i : ℕ) (events : List Event) → length words ≤ i → OneByOne StandsFor (seen (take i words)) events → OneByOne StandsFor (seen words) events
events_all [] zero events long each = each
events_all [] (suc i) events long each = each
events_all (w ∷ words) zero events long each = absurd (omega arith)
events_all (w ∷ words) (suc i) [] long each = absurd each
events_all (w ∷ words) (suc i) (e ∷ events) long each = (each.0, events_all words i events (omega arith) each.1)
