-- Turns that clients take, and those that they can't.
use Rattle.std.proofs.Common.{◌≡◌, ℕ, ◌≤◌, inl, inr, List, [], ◌∷◌, Some, refl, arith}
use Rattle.sea_object.specs.declared.op.Op.{Op}
use Rattle.sea_object.specs.declared.reply.Reply.{Reply}
use Rattle.sea_object.specs.declared.reply.Reply.TheVariants.{Done, Full}
use Rattle.sea_engine.specs.Turns.{Phase, idle, waiting, running, ready, Turns, opened, IsSentBack}
use Rattle.sea_engine.specs.Turns.{goes_on, ends, answered}
use Rattle.sea_engine.specs.Turns.{Event, step, sync, push, Turn}

-- two clients with a request of one operation each, of which the second is entered
abbrev served : Phase → Reply → Op → Op → Turns
served phase reply a b = record {
  plan = ((a ∷ []) ∷ []) ∷ ((b ∷ []) ∷ []) ∷ [];
  phases = phase ∷ idle ∷ [];
  history = record { client = 2; number = 1; reply = reply } ∷ [];
  acknowledged = 0;
  sent_back = 0;
}

-- a request that was done since sends back
pub sent_back : (a b : Op) → Turn (step 1) (served (ready 0 (Done [])) (Done []) a b) (record (served waiting (Done []) a b) { sent_back = 1 })
sent_back a b = inr (record { overtaken = omega arith; changed = refl })

-- but none that was done before, and none for which there was no room
pub done_before : (a b : Op) (after : Turns) → IsSentBack 1 1 (served (ready 1 (Done [])) (Done []) a b) after → ⊥
done_before a b after back = let none = back.overtaken in omega (arith, none)

pub no_room : (a b : Op) (after : Turns) → IsSentBack 1 0 (served (ready 0 (Done [])) (Full 3 1 0) a b) after → ⊥
no_room a b after back = let none = back.overtaken in omega (arith, none)

-- a client begins where the history ends, goes on, and stands ready after its last operation
pub begins : (a b : Op) → Turn (step 1) (served waiting (Done []) a b) (served (running 0 1) (Done []) a b)
begins a b = refl

pub stands_ready : (a b : Op) → Turn (step 1) (served (running 0 1) (Done []) a b) (served (ready 1 (Done [])) (Done []) a b)
stands_ready a b = inl (record { request = a ∷ []; next = refl; phase = ready 1 (Done []); does = ends [] refl refl; changed = refl })

-- its request is entered, and it has no other
pub is_entered : (a b : Op) → Turn (step 1) (served (ready 1 (Done [])) (Done []) a b) (record (served idle (Done []) a b) { history = record { client = 2; number = 1; reply = Done [] } ∷ record { client = 1; number = 1; reply = Done [] } ∷ [] })
is_entered a b = inl (answered refl)

-- who is idle asks for one thing more
pub asks_more : (a b c : Op) → Turn (push 2 (c ∷ [])) (served idle (Done []) a b) (record (served idle (Done []) a b) { plan = ((a ∷ []) ∷ []) ∷ ((b ∷ []) ∷ (c ∷ []) ∷ []) ∷ []; phases = idle ∷ waiting ∷ [] })
asks_more a b c = ((omega arith, omega arith), refl)

pub is_acknowledged : (a b : Op) → Turn sync (served idle (Done []) a b) (record (served idle (Done []) a b) { acknowledged = 1 })
is_acknowledged a b = refl
