-- Objects in order stay so where a change of the onode tree leaves them.
use Rattle.std.proofs.Common.{◌≡◌, ◌≢◌, ◌⊎◌, inl, inr, ℕ, ◌+◌, ◌<◌, ◌≤◌, List, Option, Some, None, refl, sym, subst, ◌∙◌, arith}
use Rattle.std.proofs.lemmas.Bool.{cases_lt}
use Rattle.std.specs.FinMap as map
use Rattle.sea_base.specs.Space.{Store, Seen, laid}
use Rattle.sea_node.specs.Entries.{Values}
use Rattle.sea_object.specs.declared.onode.Onode.{Onode}
use Rattle.sea_tree.specs.Calls.{Becomes}
use Rattle.sea_tree.proofs.Apart.{IsNodeOf-filled}
use Rattle.sea_onode.specs.Onodes.{Onodes, AreSpelled}
use Rattle.sea_onode.specs.Order.{IsInOrder, IsInRange, AreInOrder, Fits}
use Rattle.sea_onode.proofs.Onodes.{inserted, not_removed}

-- nothing is there that can't be filled
nothing : (found : Option (List ℕ)) → (found ≢ None → ⊥) → found ≡ None
nothing None never = refl
nothing (Some block) never = absurd (never (λ e. cc))

module _ (store : Store) (next : ℕ) (onodes : Onodes) (o : AreInOrder store next onodes) where
  -- nothing stands from the next address on
  none_from : (at : ℕ) → next ≤ at → store at ≡ None
  none_from at from = nothing (store at) (λ there. let bounds = o.filled at there in omega (arith, bounds.1))

  -- addresses may be given
  pub order-later : (later : ℕ) → next ≤ later → AreInOrder store later onodes
  order-later later le = record {
    tree = o.tree;
    each = λ name onode e. let was = o.each name onode e in record { low = was.low; high = omega (arith, was.high); size = was.size; attrs = was.attrs; keys = was.keys; past = was.past; alone = was.alone };
    apart = o.apart;
    begun = omega (arith, o.begun);
    filled = λ at there. let bounds = o.filled at there in (bounds.0, omega (arith, bounds.1));
  }

  -- a new object, at the next addresses
  pub new_fits : (name : List ℕ) (onode : Onode) → onode.base.0 ≡ next → onode.size ≡ 0 → onode.attrs ≡ 0 → onode.keys ≡ 0 → Fits store (next + 4098) onodes name onode
  new_fits name onode here size attrs keys = record {
    itself = record {
      low = omega (arith, o.begun, here);
      high = omega (arith, here);
      size = omega (arith, size);
      attrs = omega (arith, attrs);
      keys = omega (arith, keys);
      past = λ i few past. none_from (onode.base.0 + 2 + i) (omega (arith, here));
      alone = λ at within node. IsNodeOf-filled store 1 at o.tree.tree.tree node (none_from at (omega (arith, here, within.0)));
    };
    apart = λ other x at e within here_too. absurd (let was = o.each other x e in omega (arith, was.high, within.1, here_too.0, here));
  }

module _ (store : Store) (old new : Seen) (content : Values) (b : Becomes store 1 old new content) (later : old.next ≤ new.next) where
  -- an onode that was in order
  in_order-kept : (onode : Onode) → IsInOrder (laid old store) old.next onode → IsInOrder (laid new store) new.next onode
  in_order-kept onode o = record {
    low = o.low;
    high = omega (arith, o.high);
    size = o.size;
    attrs = o.attrs;
    keys = o.keys;
    past = λ i few past.
        let at = onode.base.0 + 2 + i in
        let within : IsInRange onode at = (omega arith, omega arith) in
        b.elsewhere at (λ is_root. absurd (omega (arith, is_root, o.low))) (o.alone at within) (inl (omega (arith, within.1, o.high))) ∙ o.past i few past;
    alone = λ at within node. elim (b.nodes at node) [
      | inl is_root ↦ omega (arith, is_root, within.0, o.low)
      | inr (inl was) ↦ o.alone at within was
      | inr (inr given) ↦ omega (arith, given.0, within.1, o.high)
    ];
  }

  module _ (before : Onodes) (o : AreInOrder (laid old store) old.next before) where
    -- what is filled now and was neither the root nor given was filled before, or is a node
    filled_before : (at : ℕ) → at ≢ 1 → (at < old.next) ⊎ (new.next ≤ at) → laid new store at ≢ None → ((1 ≤ at) × (at < old.next) → ⊥) → ⊥
    filled_before at other side there outside =
        there (b.elsewhere at other (λ node. outside (o.filled at (IsNodeOf-filled (laid old store) 1 at o.tree.tree.tree node))) side ∙ nothing (laid old store at) (λ filled. outside (o.filled at filled)))

    filled_kept : (at : ℕ) → laid new store at ≢ None → (1 ≤ at) × (at < new.next)
    filled_kept at there = elim (cases_lt at new.next) [
      | inl below ↦ (
        elim (cases_lt 0 at) [
          | inl some ↦ omega arith
          | inr none ↦ absurd (filled_before at (λ e. absurd (omega (arith, e))) (inl (omega (arith, o.begun))) there (λ bounds. omega (arith, bounds.0)))
        ],
        below,
      )
      | inr past ↦ absurd (filled_before at (λ e. absurd (omega (arith, e, o.begun))) (inr past) there (λ bounds. omega (arith, bounds.1)))
    ]

  -- a map of onodes that were all in order
  pub order_kept : (before after : Onodes) → AreInOrder (laid old store) old.next before → AreSpelled content after
      → ((name : List ℕ) (onode : Onode) → map.get after name ≡ Some onode → IsInOrder (laid old store) old.next onode)
      → ((p q : List ℕ) (x y : Onode) (at : ℕ) → map.get after p ≡ Some x → map.get after q ≡ Some y → IsInRange x at → IsInRange y at → p ≡ q)
      → AreInOrder (laid new store) new.next after
  order_kept before after o spelled each apart = record {
    tree = record { content = content; tree = b.content; spelled = spelled };
    each = λ name onode e. in_order-kept onode (each name onode e);
    apart = apart;
    begun = omega (arith, o.begun);
    filled = filled_kept before o;
  }

  pub order-insert : (before : Onodes) (name : List ℕ) (onode : Onode) → AreSpelled content (map.insert before name onode) → AreInOrder (laid old store) old.next before → Fits (laid old store) old.next before name onode → AreInOrder (laid new store) new.next (map.insert before name onode)
  order-insert before name onode spelled o fits = order_kept before (map.insert before name onode) o spelled each apart
    where
      each : (q : List ℕ) (x : Onode) → map.get (map.insert before name onode) q ≡ Some x → IsInOrder (laid old store) old.next x
      each q x e = elim (inserted before name onode q x e) [
        | inl new ↦ subst (IsInOrder (laid old store) old.next) new.1 fits.itself
        | inr was ↦ o.each q x was
      ]

      apart : (p q : List ℕ) (x y : Onode) (at : ℕ) → map.get (map.insert before name onode) p ≡ Some x → map.get (map.insert before name onode) q ≡ Some y → IsInRange x at → IsInRange y at → p ≡ q
      apart p q x y at e f within within' = elim (inserted before name onode p x e) [
        | inl one ↦ elim (inserted before name onode q y f) [
          | inl two ↦ one.0 ∙ sym two.0
          | inr was ↦ one.0 ∙ sym (fits.apart q y at was within' (subst (λ (o : Onode). IsInRange o at) (sym one.1) within))
        ]
        | inr was ↦ elim (inserted before name onode q y f) [
          | inl two ↦ fits.apart p x at was within (subst (λ (o : Onode). IsInRange o at) (sym two.1) within') ∙ sym two.0
          | inr was' ↦ o.apart p q x y at was was' within within'
        ]
      ]

  pub order-remove : (before : Onodes) (name : List ℕ) → AreSpelled content (map.remove before name) → AreInOrder (laid old store) old.next before → AreInOrder (laid new store) new.next (map.remove before name)
  order-remove before name spelled o =
      order_kept before (map.remove before name) o spelled (λ q x e. o.each q x (not_removed before name q x e))
      (λ p q x y at e f. o.apart p q x y at (not_removed before name p x e) (not_removed before name q y f))
