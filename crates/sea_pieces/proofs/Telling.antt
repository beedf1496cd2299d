-- What an operation that reads answers, from the bytes of its object.
use Rattle.std.proofs.Common.{◌≡◌, ℕ, List, Option, Some, None, refl}
use Rattle.std.specs.Prelude.{option_map}
use Rattle.sea_object.specs.declared.op.Op.{Op}
use Rattle.sea_object.specs.declared.op.Op.TheVariants.{Touch, Write, Zero, Truncate, Remove, SetAttr, RmAttr, RmAttrs, OmapSetKeys, OmapRmKeys, OmapRmKeyRange, OmapClear, Read, Stat, GetAttr, GetAttrs, OmapGet, OmapList, List as ListNames}
use Rattle.sea_object.specs.Answer.{item_at}
use Rattle.sea_pieces.specs.Committed.{plain_object}
use Rattle.sea_pieces.specs.Laying.{read_name}
use Rattle.sea_pieces.specs.Reads.{told}

pub told_at : (op : Op) (name : List ℕ) (found : Option (List ℕ)) → read_name op ≡ Some name → told op found ≡ item_at op (option_map plain_object found)
told_at (Read n offset count) name None is = refl
told_at (Read n offset count) name (Some bytes) is = refl
told_at (Stat n) name None is = refl
told_at (Stat n) name (Some bytes) is = refl
told_at (Touch n) name found is = cc
told_at (Write n offset bytes) name found is = cc
told_at (Zero n offset count) name found is = cc
told_at (Truncate n size) name found is = cc
told_at (Remove n) name found is = cc
told_at (SetAttr n key value) name found is = cc
told_at (RmAttr n key) name found is = cc
told_at (RmAttrs n) name found is = cc
told_at (OmapSetKeys n pairs) name found is = cc
told_at (OmapRmKeys n keys) name found is = cc
told_at (OmapRmKeyRange n from to bound) name found is = cc
told_at (OmapClear n) name found is = cc
told_at (GetAttr n key) name found is = cc
told_at (GetAttrs n) name found is = cc
told_at (OmapGet n key) name found is = cc
told_at (OmapList n limit after) name found is = cc
told_at (ListNames limit after) name found is = cc
