-- An attribute is taken: what that is in the model, the count of those that are left, and what was noted.
use Rattle.std.proofs.Common.{◌≡◌, inl, inr, ℕ, ◌-◌, ◌≤◌, Bool, true, false, cond, List, Option, Some, None, is_some, sym, ap, ◌∙◌, arith}
use Rattle.std.specs.Prelude.{MatchOption}
use Rattle.std.specs.FinMap as map
use Rattle.std.specs.FinMap.{len-remove}
use Rattle.sea_base.specs.Space.{Seen, OnlyRead}
use Rattle.sea_node.specs.Entries.{Values}
use Rattle.sea_node.proofs.Keys.{key_order_total}
use Rattle.sea_object.specs.declared.onode.Onode.{Onode}
use Rattle.sea_object.specs.declared.op.Op.TheVariants.{RmAttr}
use Rattle.sea_object.specs.declared.reply.Item.TheVariants.{Unit as Nothing}
use Rattle.sea_object.specs.Answer as model
use Rattle.sea_object.specs.Objects.{ObjectValue}
use Rattle.sea_onode.specs.Calls.{NotesMore}
use Rattle.sea_tree.specs.Form.{HasForm}
use Rattle.sea_ops.proofs.Parts.{Attributes}
use Rattle.sea_ops.proofs.Turns.{IsTurn}

-- what the change told: the value that was found
abbrev pub found_at : List ℕ → Option (List ℕ) → Values → Type 0
found_at key found content = found ≡ map.get content key

-- and the content without the key
abbrev pub taken : List ℕ → Values → Values
taken key content = map.remove content key

pub takes_attribute : (name key : List ℕ) (found : Option (List ℕ)) → IsTurn (RmAttr name key) name Attributes (found_at key found) (taken key) Nothing
takes_attribute name key found = record {
  allowed = λ objects o has few. ap (model.refusal_at (RmAttr name key)) has;
  answers = λ objects o has told. sym (ap (model.item_at (RmAttr name key)) has);
  effect = λ objects o has. ap (λ (z : Option ObjectValue). model.put_object (Some name) (model.object_after (RmAttr name key) z) objects) has;
}

pub fewer_counted : (x : Onode) (key : List ℕ) (found : Option (List ℕ)) (content : Values) → x.attrs ≡ map.len content → x.attrs ≤ 64 → found ≡ map.get content key → (cond (is_some found) (x.attrs - 1) x.attrs ≡ map.len (map.remove content key)) × (cond (is_some found) (x.attrs - 1) x.attrs ≤ 64)
fewer_counted x key found content counted few is =
    let one : cond (is_some (map.get content key)) (map.len content - 1) (map.len content) ≡ map.len (map.remove content key) = sym (len-remove key_order_total content key) in
    let mine : cond (is_some found) (x.attrs - 1) x.attrs ≡ map.len (map.remove content key) = ap (λ (f : Option (List ℕ)). cond (is_some f) (x.attrs - 1) x.attrs) is ∙ ap (λ (n : ℕ). cond (is_some (map.get content key)) (n - 1) n) counted ∙ one in
    (mine, less (is_some found))
  where
    less : (b : Bool) → cond b (x.attrs - 1) x.attrs ≤ 64
    less true = omega (arith, few)
    less false = few

-- what was noted stays
pub removed_notes : (a b : Seen) (root : ℕ) (key : List ℕ) (found : Option (List ℕ)) → MatchOption found (OnlyRead a b) (λ value. HasForm root key None a b) → NotesMore a b
removed_notes a b root key None reads = reads.noted
removed_notes a b root key (Some value) form = λ at found e. form.writes.reads at found (form.plans.reads at found (form.reads.noted at found e))
