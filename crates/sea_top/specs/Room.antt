-- When a request is answered full.
use Rattle.std.specs.Prelude.{◌≡◌, ℕ, ◌-◌, ◌<◌, ◌≤◌, List, [], ◌∷◌, Some, slice_get}
use Rattle.sea_plain.specs.declared.op.Op.{Op}
use Rattle.sea_plain.specs.declared.reply.Reply.{Reply}
use Rattle.sea_plain.specs.declared.reply.Reply.TheVariants.{Done, Full}
use Rattle.sea_plain_script.specs.declared.plan.Asked.{Asked}
use Rattle.sea_plain_script.specs.declared.history.Entry.{Entry}
use Rattle.sea_top.specs.Pieces.{need_of}
use Rattle.sea_top.specs.History.{requests_of}

-- A request that needs so many blocks is answered full exactly where fewer are left, with both numbers.
abbrev pub HasRoom : Reply → ℕ → ℕ → Type 0
HasRoom (Done items) need rest = need ≤ rest
HasRoom (Full wanted left empty) need rest = (rest < need) × (wanted ≡ need) × (left ≡ rest) × (empty ≡ 0)

-- the blocks that are left after its reply
abbrev pub rest_after : Reply → ℕ → ℕ → ℕ
rest_after (Done items) need rest = rest - need
rest_after (Full wanted left empty) need rest = rest

-- Each request of a history is answered so, from so many blocks on; and these blocks are left behind it.
pub data KeepsRoom (plan : List Asked) : ℕ → List Entry → ℕ → Type 0 where
  none : {rest : ℕ} → KeepsRoom plan rest [] rest
  more : {rest last : ℕ} {entry : Entry} {entries : List Entry} (request : List Op) → slice_get (requests_of entry.client plan) (entry.number - 1) ≡ Some request → HasRoom entry.reply (need_of request) rest → KeepsRoom plan (rest_after entry.reply (need_of request) rest) entries last → KeepsRoom plan rest (entry ∷ entries) last
