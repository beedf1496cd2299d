-- Small examples that the definitions hold of, and what they refuse.
use Rattle.std.proofs.Common.{◌≡◌, [], ◌∷◌, ◌++◌, codes, refl, sym, inr, arith}
use Rattle.std.specs.Fmt.{digits}
use Rattle.hex.specs.Hex.{encode_with}
use Rattle.sea_plain.specs.declared.op.Op.TheVariants.{Write, Read}
use Rattle.sea_plain.specs.declared.reply.Item.TheVariants.{Unit as Done_item, Absent, Bytes}
use Rattle.sea_plain.specs.declared.reply.Reply.TheVariants.{Done, Full}
use Rattle.sea_plain.specs.Request.{IsRequest}
use Rattle.sea_plain_script.specs.declared.plan.Asked.{Asked}
use Rattle.sea_plain_script.specs.Render.{item_text, items_text, reply_text, entry_line, end_line}
use Rattle.sea_plain_script.specs.Script.{AreBytes, IsBlank, Asks, IsScript, byte_text, data_text, name_text, pair_text, request_text}

-- ---- how a script spells

pub spaced_name : name_text (codes "a b") ≡ codes "a%20b"
unfolding name_text byte_text pair_text encode_with
spaced_name = refl

pub zero_name : name_text (0 ∷ []) ≡ codes "%00"
unfolding name_text byte_text pair_text encode_with
zero_name = refl

pub two_bytes : data_text (codes "hi") ≡ codes "x6869"
unfolding data_text encode_with
two_bytes = refl

pub one_read : request_text 1 (Read (codes "a") 0 1 ∷ []) ≡ codes "1 read a 0 1"
unfolding request_text name_text byte_text digits
one_read = refl

pub write_and_read : request_text 1 (Write (codes "a") 0 (codes "hi") ∷ Read (codes "a") 0 5 ∷ []) ≡ codes "1 write a 0 x6869 ; read a 0 5"
unfolding request_text name_text byte_text data_text encode_with digits
write_and_read = refl

-- ---- what a script is

pub comment : IsBlank (codes "# a comment")
comment = refl

pub no_comment : IsBlank (codes " # no comment") → ⊥
no_comment is = omega arith

pub not_bytes : AreBytes (256 ∷ []) → ⊥
not_bytes are = omega (arith, are.0)

abbrev reads_one : Asked
reads_one = record { client = 1; request = Read (codes "a") 0 1 ∷ [] }

pub reads_are_request : IsRequest (Read (codes "a") 0 1 ∷ [])
reads_are_request = record {
  some = omega arith;
  few = omega arith;
  each = (((omega arith, omega arith), omega arith, omega arith, omega arith), tt);
  blocks = omega arith;
  keys = omega arith;
}

pub asks_one : Asks (codes "1 read a 0 1") reads_one
asks_one = record {
  client = refl;
  request = reads_are_request;
  bytes = ((omega arith, tt), tt);
  spelled = sym one_read;
}

pub one_line : IsScript (codes "1 read a 0 1") (reads_one ∷ [])
one_line = record { short = omega arith; asked = inr (asks_one, refl); few = omega arith }

-- ---- what is printed

pub done_line : entry_line (record { client = 1; number = 2; reply = Done (Done_item ∷ Absent ∷ Bytes (codes "hi") ∷ []) }) ≡ codes "1 2 done - none x6869" ++ 10 ∷ []
unfolding entry_line reply_text items_text item_text data_text encode_with digits
done_line = refl

pub full_line : entry_line (record { client = 1; number = 2; reply = Full 3 2 0 }) ≡ codes "1 2 full 3 2 0" ++ 10 ∷ []
unfolding entry_line reply_text digits
full_line = refl

pub closing : end_line 2 0 ≡ codes "end 2 0" ++ 10 ∷ []
unfolding end_line digits
closing = refl
