-- A history, with what is known beside its entries.
use Rattle.std.specs.Prelude.{◌≡◌, ℕ, ◌+◌, ◌-◌, ◌<◌, ◌≤◌, ◌^◌, List, [], ◌∷◌, ◌++◌, length, max, nat_eq, count_by, slice_index, vec_len, vec_capacity}
use Rattle.sea_object.specs.declared.reply.Reply.{Reply}
use Rattle.sea_history.specs.declared.history.Entry.{Entry}
use Rattle.sea_history.specs.declared.history.History.TheInside.{Inside}
use Rattle.sea_history.specs.History.{AreNumbered}
use Rattle.sea_history.specs.declared.history.TheConstants.{HISTORY_ENTRIES, SENT_BACK}

-- The entries, how many of them are acknowledged, how often a client was sent back, how many clients
-- there are, and how many entries there is room for.
pub record Record : Type 0 where
  pub entries : List Entry
  pub acknowledged : ℕ
  pub sent_back : ℕ
  pub clients : ℕ
  pub spare : ℕ

-- the entries of a client
abbrev pub count_of : ℕ → List Entry → ℕ
count_of client entries = count_by (λ e. nat_eq client e.client) entries

abbrev pub HasClient : Record → ℕ → Type 0
HasClient history client = (1 ≤ client) × (client ≤ history.clients)

abbrev pub empty_record : ℕ → Record
empty_record clients = record { entries = []; acknowledged = 0; sent_back = 0; clients = clients; spare = 0 }

-- room for one entry at least
abbrev pub reserved : Record → Record
reserved history = record history { spare = max history.spare 1 }

-- the client's next entry
abbrev pub next_entry : Record → ℕ → Reply → Entry
next_entry history client reply =
    record { client = client; number = count_of client history.entries + 1; reply = reply }

abbrev pub added : Record → ℕ → Reply → Record
added history client reply =
    record history {
      entries = history.entries ++ next_entry history client reply ∷ [];
      spare = history.spare - 1;
    }

abbrev pub acknowledged : Record → Record
acknowledged history = record history { acknowledged = length history.entries }

abbrev pub sent_back_again : Record → Record
sent_back_again history = record history { sent_back = history.sent_back + 1 }

abbrev pub record_of : Inside → Record
record_of h = record {
  entries = h.entries.items;
  acknowledged = h.acknowledged;
  sent_back = h.sent_back;
  clients = vec_len h.counts;
  spare = h.spare;
}

pub record IsRecord (h : Inside) : Type 0 where
  pub counted : (client : ℕ) → 1 ≤ client → client ≤ vec_len h.counts →
      slice_index h.counts.items (client - 1) ≡ count_of client h.entries.items
  pub numbered : AreNumbered h.entries.items
  pub few : vec_len h.entries ≤ HISTORY_ENTRIES
  pub back : h.sent_back ≤ SENT_BACK
  pub within : vec_len h.entries + h.spare ≤ vec_capacity h.entries
  pub clients : vec_len h.counts < 2 ^ 32
