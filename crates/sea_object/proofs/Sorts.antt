-- What sorts of operations are never refused, or always have a name.
use Rattle.std.proofs.Common.{◌≡◌, ℕ, Bool, true, false, cond, List, Option, Some, None, is_some, refl, sym, ap, subst, ◌∙◌}
use Rattle.std.proofs.lemmas.Bool.{false≢true}
use Rattle.sea_object.specs.declared.op.Op.{Op}
use Rattle.sea_object.specs.declared.op.Op.TheVariants.{Touch, Write, Zero, Truncate, Remove, SetAttr, RmAttr, RmAttrs, OmapSetKeys, OmapRmKeys, OmapRmKeyRange, OmapClear, Read, Stat, GetAttr, GetAttrs, OmapGet, OmapList, List as ListNames}
use Rattle.sea_object.specs.declared.op.Kind.{Kind}
use Rattle.sea_object.specs.declared.op.Kind.TheVariants.{Makes, Puts, Takes, Asks}
use Rattle.sea_object.specs.declared.reply.Why.TheVariants.{NoObject}
use Rattle.sea_object.specs.Objects.{ObjectValue, empty_object}
use Rattle.sea_object.specs.Answer.{changed, object_after, overfills, refusal_at}
use Rattle.sea_object.specs.Op.{kind, kind_changes, kind_makes, kind_needs, changes, makes, needs_object, name_of}

abbrev puts : Kind → Bool
puts Puts = true
puts _ = false

fits : (op : Op) (o : ObjectValue) → puts (kind op) ≡ false → overfills op o ≡ None
fits (Touch name) o h = refl
fits (Write name offset bytes) o h = refl
fits (Zero name offset count) o h = refl
fits (Truncate name size) o h = refl
fits (Remove name) o h = refl
fits (SetAttr name key value) o h = absurd (false≢true (sym h))
fits (RmAttr name key) o h = refl
fits (RmAttrs name) o h = refl
fits (OmapSetKeys name pairs) o h = absurd (false≢true (sym h))
fits (OmapRmKeys name keys) o h = refl
fits (OmapRmKeyRange name from to bound) o h = refl
fits (OmapClear name) o h = refl
fits (Read name offset count) o h = refl
fits (Stat name) o h = refl
fits (GetAttr name key) o h = refl
fits (GetAttrs name) o h = refl
fits (OmapGet name key) o h = refl
fits (OmapList name limit after) o h = refl
fits (ListNames limit after) o h = refl

asks_puts : (k : Kind) → kind_changes k ≡ false → puts k ≡ false
asks_puts Makes h = refl
asks_puts Puts h = absurd (false≢true (sym h))
asks_puts Takes h = refl
asks_puts Asks h = refl

asks_needs : (k : Kind) → kind_changes k ≡ false → kind_needs k ≡ false
asks_needs Makes h = refl
asks_needs Puts h = absurd (false≢true (sym h))
asks_needs Takes h = absurd (false≢true (sym h))
asks_needs Asks h = refl

-- an operation that changes nothing is not refused
pub asks_fits : (op : Op) (object : Option ObjectValue) → changes op ≡ false → refusal_at op object ≡ None
asks_fits op None h = ap (λ b. cond b (Some NoObject) None) (asks_needs (kind op) h)
asks_fits op (Some o) h = fits op o (asks_puts (kind op) h)

-- nor is one that makes its object
pub makes_fits : (op : Op) (o : ObjectValue) → kind op ≡ Makes → overfills op o ≡ None
makes_fits op o is = fits op o (ap puts is)

-- an operation that changes something has a name
pub named : (op : Op) → changes op ≡ true → is_some (name_of op) ≡ true
named (Touch name) h = refl
named (Write name offset bytes) h = refl
named (Zero name offset count) h = refl
named (Truncate name size) h = refl
named (Remove name) h = refl
named (SetAttr name key value) h = refl
named (RmAttr name key) h = refl
named (RmAttrs name) h = refl
named (OmapSetKeys name pairs) h = refl
named (OmapRmKeys name keys) h = refl
named (OmapRmKeyRange name from to bound) h = refl
named (OmapClear name) h = refl
named (Read name offset count) h = refl
named (Stat name) h = refl
named (GetAttr name key) h = refl
named (GetAttrs name) h = refl
named (OmapGet name key) h = refl
named (OmapList name limit after) h = refl
named (ListNames limit after) h = absurd (false≢true h)

-- an operation that makes its object makes it of an empty one
pub made_after : (op : Op) → kind op ≡ Makes → object_after op None ≡ Some (changed op empty_object)
made_after (Touch name) is = refl
made_after (Write name offset bytes) is = refl
made_after (Zero name offset count) is = refl
made_after (Truncate name size) is = absurd (false≢true (ap kind_makes is))
made_after (Remove name) is = absurd (false≢true (ap kind_makes is))
made_after (SetAttr name key value) is = absurd (false≢true (ap kind_makes is))
made_after (RmAttr name key) is = absurd (false≢true (ap kind_makes is))
made_after (RmAttrs name) is = absurd (false≢true (ap kind_makes is))
made_after (OmapSetKeys name pairs) is = absurd (false≢true (ap kind_makes is))
made_after (OmapRmKeys name keys) is = absurd (false≢true (ap kind_makes is))
made_after (OmapRmKeyRange name from to bound) is = absurd (false≢true (ap kind_makes is))
made_after (OmapClear name) is = absurd (false≢true (ap kind_makes is))
made_after (Read name offset count) is = absurd (false≢true (ap kind_makes is))
made_after (Stat name) is = absurd (false≢true (ap kind_makes is))
made_after (GetAttr name key) is = absurd (false≢true (ap kind_makes is))
made_after (GetAttrs name) is = absurd (false≢true (ap kind_makes is))
made_after (OmapGet name key) is = absurd (false≢true (ap kind_makes is))
made_after (OmapList name limit after) is = absurd (false≢true (ap kind_makes is))
made_after (ListNames limit after) is = absurd (false≢true (ap kind_makes is))
