-- Small examples that the definitions hold of, and what they refuse.
use Rattle.std.proofs.Common.{◌≡◌, ◌⊎◌, ℕ, ◌<◌, List, [], ◌∷◌, ◌++◌, length, replicate, codes, refl, sym, ap, ◌∙◌, inl, inr, arith, Option, Some, None}
use Rattle.std.specs.Fmt.{digits}
use Rattle.sea_base.specs.Field.{big_endian}
use Rattle.sea_plain.specs.declared.op.Op.{Op}
use Rattle.sea_plain.specs.declared.op.Op.TheVariants.{Write, Read}
use Rattle.sea_plain.specs.declared.reply.Item.TheVariants.{Unit as Done_item, Absent, Bytes}
use Rattle.sea_plain.specs.declared.reply.Reply.TheVariants.{Done, Full}
use Rattle.sea_plain.specs.Objects.{ObjectMap, ObjectValue}
use Rattle.sea_plain.specs.Answer.{read_item}
use Rattle.std.specs.FinMap as map
use Rattle.sea_plain_script.specs.declared.plan.Asked.{Asked}
use Rattle.sea_plain_script.specs.declared.history.Entry.{Entry}
use Rattle.sea_plain_script.specs.declared.script.ScriptWhy.TheVariants.{NotBuilt}
use Rattle.sea_plain_script.specs.Render.{entry_line, end_line, reply_text, items_text, item_text}
use Rattle.sea_top.specs.declared.refusal.Refusal.TheVariants.{Usage, Script, DeviceFault, NoMemory, ReadFault}
use Rattle.sea_top.specs.Causes.{IsSteps}
use Rattle.sea_top.specs.Crash.{IsClearBehind, log_of, log_pieces}
use Rattle.sea_top.specs.Headline.{EndsRun, IsRefusedFor, Prints, run_text, whole, nothing, front}
use Rattle.sea_top.specs.History.{IsReply, Legal, none, more}
use Rattle.sea_top.specs.Pieces.{need_of, pieces_asked}
use Rattle.sea_top.specs.Record.{blocks_of, body_bytes, piece_bytes}
use Rattle.sea_top.specs.Refusal.{ending_line, refusal_line, why_text}
use Rattle.sea_top.specs.Room as room
use Rattle.sea_top.specs.Room.{HasRoom, KeepsRoom}
use Rattle.sea_top.specs.Trail.{Opens, objects_of}
use Rattle.sea_top.proofs.Chains.{same_trail, zeros_trail}

-- ---- words, lines and statuses

pub other_words : IsSteps (codes "step" ∷ []) → ⊥
other_words is = let same : codes "step" ∷ [] ≡ codes "steps" ∷ [] = is in cc

pub script_line : refusal_line (Script 3 NotBuilt) ≡ codes "script 3 NotBuilt" ++ 10 ∷ []
unfolding refusal_line why_text digits
script_line = refl

pub nothing_served : run_text [] 0 None ≡ codes "end 0 0" ++ 10 ∷ []
unfolding end_line digits
nothing_served = refl

pub usage_ends_no_run : EndsRun (Some Usage) → ⊥
usage_ends_no_run (inl e) = absurd cc
usage_ends_no_run (inr e) = absurd cc

pub printed_whole : Prints ending_line (Some ReadFault) 6 (refusal_line ReadFault)
printed_whole = whole refl refl

pub printed_part : Prints ending_line (Some ReadFault) 7 (codes "read ")
unfolding refusal_line
printed_part = front refl (codes "fault" ++ 10 ∷ []) refl

-- a part that was printed tells of no want of memory
pub no_part : Prints ending_line (Some ReadFault) 5 (codes "read ") → ⊥
no_part (whole is spelled) = omega (arith, is)
no_part (nothing is empty) = omega (arith, ap length empty)
no_part (front is rest spelled) = omega (arith, is)

-- ---- requests and replies

abbrev writes : List Op
writes = Write (codes "a") 0 (codes "A") ∷ []

abbrev reads : List Op
reads = Read (codes "a") 0 1 ∷ []

pub one_block : need_of writes ≡ 1
unfolding blocks_of body_bytes piece_bytes big_endian
one_block = refl

pub no_block : need_of reads ≡ 0
no_block = refl

pub one_record : log_of (Done (Done_item ∷ [])) writes ≡ pieces_asked writes ∷ []
one_record = refl

pub no_record : log_of (Full 1 0 0) writes ≡ []
no_record = refl

pub absent_read : IsReply (Done (Absent ∷ [])) reads map.empty
absent_read = ap (λ (found : Option ObjectValue). Done (read_item 0 1 found ∷ [])) (sym (map.get-empty _ (codes "a")))

pub other_read : IsReply (Done (Bytes [] ∷ [])) reads map.empty → ⊥
other_read is = let same : Done (Bytes [] ∷ []) ≡ Done (Absent ∷ []) = is ∙ sym absent_read in cc

pub full_device : HasRoom (Full 1 0 0) 1 0
full_device = (omega arith, refl, refl, refl)

pub room_left : HasRoom (Full 1 1 0) 1 1 → ⊥
room_left has = omega (arith, has.0)

abbrev entry : Entry
entry = record { client = 1; number = 1; reply = Full 1 0 0 }

abbrev plan : List Asked
plan = record { client = 1; request = writes } ∷ []

pub full_is_legal : Legal plan map.empty (entry ∷ []) map.empty
full_is_legal = more writes refl tt none

pub full_keeps_room : KeepsRoom plan 0 (entry ∷ []) 0
full_keeps_room = room.more writes refl (omega (arith, one_block), sym one_block, refl, refl) room.none

-- no request 2 was asked for
pub second_is_not : Legal plan map.empty (record { client = 1; number = 2; reply = Full 1 0 0 } ∷ []) map.empty → ⊥
second_is_not (more request asked is rest) = absurd cc

-- ---- images

pub zeros_open : (n : ℕ) → Opens (replicate n 0) map.empty
zeros_open n = record { records = []; trail = zeros_trail n; objects_are = refl }

pub zeros_are_clear : (n : ℕ) → IsClearBehind [] [] (replicate n 0)
zeros_are_clear n = zeros_trail n

pub zeros_open_to_none : (n : ℕ) (objects : ObjectMap) → Opens (replicate n 0) objects → objects ≡ map.empty
zeros_open_to_none n objects opens =
    opens.objects_are ∙ ap objects_of (same_trail (replicate n 0) opens.records [] opens.trail (zeros_trail n))
