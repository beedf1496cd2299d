-- Why the words of a line ask for no request.
use Rattle.std.proofs.Common.{◌≡◌, ◌⊎◌, inl, inr, ℕ, ◌≤◌, List, [], ◌∷◌, length, Err, sym, subst, arith}
use Rattle.std.specs.Fmt.{decimal}
use Rattle.std.proofs.lemmas.List.Splits.{length-slice_split}
use Rattle.sea_object.specs.declared.op.Op.{Op}
use Rattle.sea_object.specs.declared.request.RequestFault.{RequestFault}
use Rattle.sea_object.specs.declared.request.RequestFault.TheVariants.{Empty, TooManyOps, BadRange, BadValue, TooManyBlocks, TooManyKeys}
use Rattle.sea_object.specs.Refusal.{Refuses}
use Rattle.sea_script.specs.declared.fault.LineFault.{LineFault}
use Rattle.sea_script.specs.declared.fault.LineFault.TheVariants.{NoMemory, Why}
use Rattle.sea_script.specs.declared.script.ScriptWhy.{ScriptWhy}
use Rattle.sea_script.specs.declared.script.ScriptWhy.TheVariants.{BadOp}
use Rattle.sea_script.specs.declared.table.Kind.{Kind}
use Rattle.sea_script.specs.declared.table.Kind.TheVariants.{Name, Number, Bytes}
use Rattle.sea_script.specs.Argument.{IsFirstBad, bad}
use Rattle.sea_script.specs.Operation.{IsFirstFault, Spells}
use Rattle.sea_script.specs.ReadingLines.{ReadsOps, ReadsRequest, why_none}
use Rattle.sea_script.specs.Script.{Given, HasOpFault, IsClient, IsNoRequest, OneByOne, is_mark, parts}

-- ---- operations that are not spelled

-- a reason of words
abbrev IsWordWhy : ScriptWhy → Type 0
IsWordWhy why = (why ≡ BadOp) ⊎ ((kind : Kind) × (why ≡ bad kind))

first_bad : (kinds : List Kind) (words : List (List ℕ)) (why : ScriptWhy) → IsFirstBad kinds words why → IsWordWhy why
first_bad [] words why is = absurd is
first_bad (k ∷ kinds) [] why is = absurd is
first_bad (k ∷ kinds) (w ∷ words) why (inl is) = inr (k, is.1)
first_bad (k ∷ kinds) (w ∷ words) why (inr is) = first_bad kinds words why is.1

first_fault : (all : List (List (List ℕ))) (why : ScriptWhy) → IsFirstFault all why → IsWordWhy why
first_fault [] why is = absurd is
first_fault (part ∷ all) why (inl (inl is)) = inl is.1
first_fault (part ∷ all) why (inl (inr is)) = first_bad _ is.1 why is.3
first_fault (part ∷ all) why (inr is) = first_fault all why is.1

op_why : (said : List (List ℕ)) (given : Given) (why : ScriptWhy) → IsWordWhy why → HasOpFault said why → IsNoRequest why said given
op_why said given why (inl is) fault =
    subst (λ w. IsNoRequest w said given) (sym is) (subst (HasOpFault said) is fault)
op_why said given why (inr (Name, is)) fault =
    subst (λ w. IsNoRequest w said given) (sym is) (subst (HasOpFault said) is fault)
op_why said given why (inr (Number, is)) fault =
    subst (λ w. IsNoRequest w said given) (sym is) (subst (HasOpFault said) is fault)
op_why said given why (inr (Bytes, is)) fault =
    subst (λ w. IsNoRequest w said given) (sym is) (subst (HasOpFault said) is fault)

pub asks_fails : (said : List (List ℕ)) (client : ℕ) (others : List (List ℕ)) (fault : LineFault) → IsClient client → said ≡ decimal client ∷ others → ReadsOps (parts others) (Err fault) → (given : Given) → ReadsRequest said given (Err fault)
asks_fails said client others NoMemory is whole fails given = tt
asks_fails said client others (Why why) is whole fails given =
    op_why said given why (first_fault (parts others) why fails) (client, others, (is, whole), fails)

-- ---- operations that are no request

some_part : (others : List (List ℕ)) (ops : List Op) → OneByOne Spells (parts others) ops → ops ≡ [] → ⊥
some_part others ops each none = go (parts others) (omega (arith, length-slice_split is_mark others)) (subst (OneByOne Spells (parts others)) none each)
  where
    go : (ps : List (List (List ℕ))) → 1 ≤ length ps → OneByOne Spells ps [] → ⊥
    go [] some each = omega arith
    go (p ∷ ps) some each = each

pub request_fails : (said : List (List ℕ)) (client : ℕ) (others : List (List ℕ)) (ops : List Op) (fault : RequestFault) → IsClient client → said ≡ decimal client ∷ others → OneByOne Spells (parts others) ops → Refuses ops fault → (given : Given) → IsNoRequest (why_none fault) said given
request_fails said client others ops Empty is whole each refuses given = absurd (some_part others ops each refuses)
request_fails said client others ops TooManyOps is whole each refuses given =
    (client, ops, (others, (is, whole), each), refuses)
request_fails said client others ops (BadRange op) is whole each refuses given =
    (op, (client, ops, (others, (is, whole), each), refuses))
request_fails said client others ops (BadValue op) is whole each refuses given =
    (op, (client, ops, (others, (is, whole), each), refuses))
request_fails said client others ops TooManyBlocks is whole each refuses given =
    (client, ops, (others, (is, whole), each), refuses)
request_fails said client others ops TooManyKeys is whole each refuses given =
    (client, ops, (others, (is, whole), each), refuses)
