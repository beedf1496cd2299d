-- Values of a tree, and the onodes that they spell.
use Rattle.std.proofs.Common.{◌≡◌, ◌⊎◌, inl, inr, ℕ, zero, suc, Bool, true, false, cond, List, [], ◌∷◌, Option, Some, None, map as each, take, refl, sym, ap, subst, ◌∙◌}
use Rattle.std.specs.Prelude.{T, ◌&&◌, filter, option_map}
use Rattle.std.specs.Ordering.{eq_by_cmp, is_lt, is_eq}
use Rattle.std.specs.declared.cmp.Ordering.{Ordering}
use Rattle.std.specs.declared.cmp.Ordering.TheVariants.{Less, Equal, Greater}
use Rattle.std.specs.FinMap as map
use Rattle.std.specs.FinMap.{get-insert, get-remove, get-entries, entries_sorted}
use Rattle.std.specs.FinMap.Entries.{find, below_all, is_sorted, same_entries}
use Rattle.sea_node.specs.Entries.{Entry, Values, key_order}
use Rattle.sea_node.proofs.Keys.{key_order_total, same_key}
use Rattle.sea_object.specs.declared.onode.Onode.{Onode}
use Rattle.sea_object.specs.Objects.{is_after}
use Rattle.sea_object.proofs.Order.{keys-filter}
use Rattle.sea_tree.specs.Calls.{pairs_above}
use Rattle.sea_onode.specs.Onodes.{Onodes, AreSpelled, first_names}
use Rattle.sea_onode.specs.Spelling.{Spells, IsValueOf, onode_bytes}
use Rattle.sea_onode.proofs.Spelling.{same_onode}

-- ---- one value

-- a value spells one onode
pub same_value : (value : Option (List ℕ)) (x y : Option Onode) → IsValueOf value x → IsValueOf value y → x ≡ y
same_value None None None a b = refl
same_value None None (Some y) a b = absurd b
same_value None (Some x) y a b = absurd a
same_value (Some v) None y a b = absurd a
same_value (Some v) (Some x) None a b = absurd b
same_value (Some v) (Some x) (Some y) a b = ap Some (same_onode v x y a b)

-- and an onode is spelled by one value
pub value_bytes : (value : Option (List ℕ)) (onode : Option Onode) → IsValueOf value onode → value ≡ option_map onode_bytes onode
value_bytes None None is = refl
value_bytes None (Some x) is = absurd is
value_bytes (Some v) None is = absurd is
value_bytes (Some v) (Some x) is = ap Some is.spelled

-- ---- a map with one name changed

chosen : (b : Bool) (bytes : List ℕ) (onode : Onode) (value : Option (List ℕ)) (other : Option Onode) → Spells bytes onode → IsValueOf value other → IsValueOf (cond b (Some bytes) value) (cond b (Some onode) other)
chosen true bytes onode value other spells is = spells
chosen false bytes onode value other spells is = is

left_out : (b : Bool) (value : Option (List ℕ)) (other : Option Onode) → IsValueOf value other → IsValueOf (cond b None value) (cond b None other)
left_out true value other is = tt
left_out false value other is = is

pub spelled-insert : (content : Values) (onodes : Onodes) (name bytes : List ℕ) (onode : Onode) → AreSpelled content onodes → Spells bytes onode → AreSpelled (map.insert content name bytes) (map.insert onodes name onode)
spelled-insert content onodes name bytes onode are spells q =
    subst (λ (v : Option (List ℕ)). IsValueOf v (map.get (map.insert onodes name onode) q)) (sym (get-insert key_order_total content name bytes q))
    (subst (IsValueOf (cond (eq_by_cmp key_order q name) (Some bytes) (map.get content q))) (sym (get-insert key_order_total onodes name onode q))
    (chosen (eq_by_cmp key_order q name) bytes onode (map.get content q) (map.get onodes q) spells (are q)))

pub spelled-remove : (content : Values) (onodes : Onodes) (name : List ℕ) → AreSpelled content onodes → AreSpelled (map.remove content name) (map.remove onodes name)
spelled-remove content onodes name are q =
    subst (λ (v : Option (List ℕ)). IsValueOf v (map.get (map.remove onodes name) q)) (sym (get-remove key_order_total content name q))
    (subst (IsValueOf (cond (eq_by_cmp key_order q name) None (map.get content q))) (sym (get-remove key_order_total onodes name q))
    (left_out (eq_by_cmp key_order q name) (map.get content q) (map.get onodes q) (are q)))

equal_order : (o : Ordering) → is_eq o ≡ true → o ≡ Equal
equal_order Less e = absurd (cc)
equal_order Equal e = refl
equal_order Greater e = absurd (cc)

tied : (q name : List ℕ) → eq_by_cmp key_order q name ≡ true → q ≡ name
tied q name e = same_key q name (equal_order (key_order q name) e)

-- what is spelled under a name already
pub spelled-again : (content : Values) (onodes : Onodes) (name bytes : List ℕ) (onode : Onode) → AreSpelled content onodes → map.get content name ≡ Some bytes → Spells bytes onode → AreSpelled content (map.insert onodes name onode)
spelled-again content onodes name bytes onode are here spells q =
    subst (IsValueOf (map.get content q)) (sym (get-insert key_order_total onodes name onode q)) (by (eq_by_cmp key_order q name) refl)
  where
    by : (b : Bool) → eq_by_cmp key_order q name ≡ b → IsValueOf (map.get content q) (cond b (Some onode) (map.get onodes q))
    by true e = subst (λ (v : Option (List ℕ)). IsValueOf v (Some onode)) (sym (ap (map.get content) (tied q name e) ∙ here)) spells
    by false e = are q

-- an onode of a map with one more is that, or was there
pub inserted : (onodes : Onodes) (name : List ℕ) (onode : Onode) (q : List ℕ) (x : Onode) → map.get (map.insert onodes name onode) q ≡ Some x → ((q ≡ name) × (onode ≡ x)) ⊎ (map.get onodes q ≡ Some x)
inserted onodes name onode q x e = by (eq_by_cmp key_order q name) refl (sym (get-insert key_order_total onodes name onode q) ∙ e)
  where
    by : (b : Bool) → eq_by_cmp key_order q name ≡ b → cond b (Some onode) (map.get onodes q) ≡ Some x → ((q ≡ name) × (onode ≡ x)) ⊎ (map.get onodes q ≡ Some x)
    by true same is = inl (tied q name same, cc)
    by false other is = inr is

pub not_removed : (onodes : Onodes) (name q : List ℕ) (x : Onode) → map.get (map.remove onodes name) q ≡ Some x → map.get onodes q ≡ Some x
not_removed onodes name q x e = by (eq_by_cmp key_order q name) (sym (get-remove key_order_total onodes name q) ∙ e)
  where
    by : (b : Bool) → cond b None (map.get onodes q) ≡ Some x → map.get onodes q ≡ Some x
    by true is = absurd (cc)
    by false is = is

-- ---- all names

abbrev spelled_entry : List ℕ × Onode → Entry
spelled_entry e = (e.0, onode_bytes e.1)

picked : (b : Bool) (onode : Onode) (value : Option (List ℕ)) (rest : Option Onode) → value ≡ option_map onode_bytes rest → cond b (Some (onode_bytes onode)) value ≡ option_map onode_bytes (cond b (Some onode) rest)
picked true onode value rest e = refl
picked false onode value rest e = e

find-spelled : (es : List (List ℕ × Onode)) (q : List ℕ) → find key_order q (each spelled_entry es) ≡ option_map onode_bytes (find key_order q es)
find-spelled [] q = refl
find-spelled (e ∷ es) q = picked (eq_by_cmp key_order q e.0) e.1 (find key_order q (each spelled_entry es)) (find key_order q es) (find-spelled es q)

below-spelled : (x : List ℕ) (es : List (List ℕ × Onode)) → below_all key_order x (each spelled_entry es) ≡ below_all key_order x es
below-spelled x [] = refl
below-spelled x (e ∷ es) = ap (λ (b : Bool). is_lt (key_order x e.0) && b) (below-spelled x es)

sorted-spelled : (es : List (List ℕ × Onode)) → is_sorted key_order (each spelled_entry es) ≡ is_sorted key_order es
sorted-spelled [] = refl
sorted-spelled (e ∷ es) = λ i. below-spelled e.0 es i && sorted-spelled es i

entries-spelled : (content : Values) (onodes : Onodes) → AreSpelled content onodes → map.entries content ≡ each spelled_entry (map.entries onodes)
entries-spelled content onodes are =
    same_entries key_order key_order_total same_key (map.entries content) (each spelled_entry (map.entries onodes)) (entries_sorted content) (subst T (sym (sorted-spelled (map.entries onodes))) (entries_sorted onodes))
    (λ q. sym (get-entries content q) ∙ value_bytes (map.get content q) (map.get onodes q) (are q) ∙ ap (option_map onode_bytes) (get-entries onodes q) ∙ sym (find-spelled (map.entries onodes) q))

keys_of : (es : List (List ℕ × Onode)) → each (λ e. e.0) (each spelled_entry es) ≡ each (λ e. e.0) es
keys_of [] = refl
keys_of (e ∷ es) = ap (λ (rest : List (List ℕ)). e.0 ∷ rest) (keys_of es)

-- ---- a listing

each-take : (n : ℕ) (es : List Entry) → each (λ e. e.0) (take n es) ≡ take n (each (λ e. e.0) es)
each-take zero es = refl
each-take (suc n) [] = refl
each-take (suc n) (e ∷ es) = ap (λ (rest : List (List ℕ)). e.0 ∷ rest) (each-take n es)

all_kept : (xs : List (List ℕ)) → filter (λ _. true) xs ≡ xs
all_kept [] = refl
all_kept (x ∷ xs) = ap (λ (rest : List (List ℕ)). x ∷ rest) (all_kept xs)

keys-above : (after : Option (List ℕ)) (content : Values) → each (λ e. e.0) (pairs_above after content) ≡ filter (is_after after) (map.keys content)
keys-above None content = sym (all_kept (map.keys content))
keys-above (Some bound) content = keys-filter (is_after (Some bound)) (map.entries content)

-- the names of the first pairs above a bound are the first names behind it
pub names_listed : (limit : ℕ) (after : Option (List ℕ)) (content : Values) (onodes : Onodes) → AreSpelled content onodes → each (λ e. e.0) (take limit (pairs_above after content)) ≡ first_names limit after onodes
names_listed limit after content onodes are =
    each-take limit (pairs_above after content) ∙ ap (take limit) (keys-above after content
    ∙ ap (filter (is_after after)) (ap (each (λ e. e.0)) (entries-spelled content onodes are) ∙ keys_of (map.entries onodes)))
