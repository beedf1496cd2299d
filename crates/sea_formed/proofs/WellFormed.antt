-- A store is well formed where its objects were read and its addresses are shared out among them.
use Rattle.std.proofs.Common.{◌≡◌, ◌≢◌, ◌⊎◌, ℕ, ◌+◌, ◌*◌, ◌<◌, ◌≤◌, List, [], ◌∷◌, ◌++◌, length, map as each, Option, Some, None, inl, inr, refl, sym, ap, subst, ◌∙◌, arith}
use Rattle.std.specs.Prelude.{◌↔◌}
use Rattle.std.specs.List.{All, Contains, flat_map}
use Rattle.std.specs.Option.{option_map}
use Rattle.std.specs.FinMap as map
use Rattle.std.specs.FinMap.{len-entries}
use Rattle.std.proofs.lemmas.List.Elements.{All-contains, Contains-append_cases}
use Rattle.sea_base.specs.Space.{Store}
use Rattle.sea_node.specs.Entries.{Entry, IsRising, key_order}
use Rattle.sea_object.specs.declared.onode.Onode.{Onode}
use Rattle.sea_object.specs.Objects.{ObjectValue}
use Rattle.sea_tree.specs.Tree.{IsNodeOf, AreApart}
use Rattle.sea_tree.proofs.Holding.{Contains-head, Contains-later}
use Rattle.sea_tree.proofs.Contents.{entries_of_sorted}
use Rattle.sea_onode.specs.Spelling.{IsValueOf, onode_bytes}
use Rattle.sea_onode.specs.Onodes.{AreSpelled}
use Rattle.sea_onode.specs.Order.{IsInRange, IsInOrder, AreInOrder}
use Rattle.sea_ops.specs.WellFormed.{IsObjectOf, AreOfOne, IsRoot, IsOwnRoot, HasOnodeWith, IsDataOf, IsWellFormed}
use Rattle.sea_formed.specs.declared.object.Held.{Held}
use Rattle.sea_formed.specs.Trees.{IsTreeOf}
use Rattle.sea_formed.specs.Held.{IsHeld, IsListed, AreHeld, pair_of, object_of, objects_of, onodes_of}
use Rattle.sea_formed.specs.Shares.{AreFar, IsAlone, AreAlone, HasUse, EndsBefore, AreShared, nodes_of}
use Rattle.sea_formed.proofs.Named.{seek, get_listed, seek_contained, contained_sought}
use Rattle.sea_formed.proofs.Far.{Rooted, nodes_in, trees_apart, trees_of, nodes_of_trees, tree_listed, node_of_one, one_in_range}

counted : (pairs : List Entry) (n : ℕ) → IsRising pairs → n ≡ length pairs → n ≡ map.len (map.from_sorted {R = key_order} pairs)
counted pairs n rising same = same ∙ ap length (sym (entries_of_sorted pairs rising)) ∙ sym (len-entries (map.from_sorted {R = key_order} pairs))

object_held : (store : Store) (h : Held) → IsHeld store h → IsObjectOf store h.onode (object_of h)
object_held store h is = record {
  bytes = is.bytes;
  attributes = is.attributes.content;
  omap = is.omap.content;
  attrs = counted h.attributes.pairs.items h.onode.attrs is.attributes.rising is.attrs;
  keys = counted h.omap.pairs.items h.onode.keys is.omap.rising is.keys;
}

module _ (store : Store) (next : ℕ) (pairs : List Entry) (own : List ℕ) (held : List Held) (filled : List ℕ) (tree' : IsTreeOf store 1 pairs own) (read : AreHeld store next pairs held) (shares : AreShared filled next own held) (fills : (at : ℕ) → Contains filled at ↔ (store at ≢ None)) where
  tree : IsTreeOf store 1 (each pair_of held) own
  tree = subst (λ (ps : List Entry). IsTreeOf store 1 ps own) (sym read.pairs_are) tree'

  listed : (h : Held) → Contains held h → IsListed store next h
  listed h has = All-contains (IsListed store next) held h read.all has

  onode_of : (name : List ℕ) → map.get (onodes_of held) name ≡ option_map (λ h. h.onode) (seek name held)
  onode_of name = get_listed (λ h. h.onode) held tree.rising name

  -- an onode is that of an object that was read
  found : (name : List ℕ) (onode : Onode) → map.get (onodes_of held) name ≡ Some onode → (h : Held) × Contains held h × (h.onode ≡ onode) × (h.name ≡ name)
  found name onode got = by (seek name held) refl (sym (onode_of name) ∙ got)
    where
      by : (o : Option Held) → seek name held ≡ o → option_map (λ h. h.onode) o ≡ Some onode → (h : Held) × Contains held h × (h.onode ≡ onode) × (h.name ≡ name)
      by None sought is = absurd cc
      by (Some h) sought is = let s = seek_contained name held h sought in (h, s.0, (let e : h.onode ≡ onode = (cc) in e), s.1)

  found_with : (P : Onode → Type 0) → HasOnodeWith (onodes_of held) P → (h : Held) × Contains held h × P h.onode
  found_with P has =
      let f = found has.0 has.1 has.2 in
      (f.0, f.1, subst P (sym f.2) has.3)

  with_onode : (P : Onode → Type 0) (h : Held) → Contains held h → P h.onode → HasOnodeWith (onodes_of held) P
  with_onode P h has holds = (h.name, h.onode, onode_of h.name ∙ ap (option_map (λ (h : Held). h.onode)) (contained_sought held h tree.rising has), holds)

  -- ---- the onodes

  spelled : AreSpelled (map.from_sorted (each pair_of held)) (onodes_of held)
  spelled name =
      subst (λ (v : Option (List ℕ)). IsValueOf v (map.get (onodes_of held) name)) (sym (get_listed (λ h. onode_bytes h.onode) held tree.rising name)) (subst (λ (o : Option Onode). IsValueOf (option_map (λ h. onode_bytes h.onode) (seek name held)) o) (sym (onode_of name)) (by (seek name held) refl))
    where
      by : (o : Option Held) → seek name held ≡ o → IsValueOf (option_map (λ h. onode_bytes h.onode) o) (option_map (λ h. h.onode) o)
      by None sought = tt
      by (Some h) sought = (listed h (seek_contained name held h sought).0).spelled

  is_filled : (at : ℕ) → store at ≢ None → Contains filled at
  is_filled at some = (fills at).1 some

  in_order : (h : Held) → Contains held h → IsInOrder store next h.onode
  in_order h has =
      let limits = (listed h has).limits in
      record {
        low = limits.low;
        high = limits.high;
        size = limits.size;
        attrs = limits.attrs;
        keys = limits.keys;
        past = λ i small end. by i small end (store (h.onode.base.0 + 2 + i)) refl;
        alone = λ at within node.
            let only : at ≡ 1 = All-contains (λ one. IsInRange one.onode at → at ≡ 1) held h (All-contains (IsAlone held 1) own at shares.alone ((tree.nodes at).1 node)) has within in
            omega (arith, only, within.0, limits.low);
      }
    where
      by : (i : ℕ) → i < 4096 → h.onode.size ≤ 4096 * i → (o : Option (List ℕ)) → store (h.onode.base.0 + 2 + i) ≡ o → store (h.onode.base.0 + 2 + i) ≡ None
      by i small end None is = is
      by i small end (Some bytes) is =
          let some : store (h.onode.base.0 + 2 + i) ≢ None = (λ none. let e : ◌≡◌ {A = Option (List ℕ)} (Some bytes) None = sym is ∙ none in cc) in
          let ends = All-contains (λ at. All (λ one. EndsBefore one.onode at) held) filled (h.onode.base.0 + 2 + i) shares.ends (is_filled (h.onode.base.0 + 2 + i) some) in
          let inside = All-contains (λ one. EndsBefore one.onode (h.onode.base.0 + 2 + i)) held h ends has (omega arith, omega arith) in
          absurd (omega (arith, inside, end))

  order : AreInOrder store next (onodes_of held)
  order = record {
    tree = record { content = map.from_sorted (each pair_of held); tree = tree.content; spelled = spelled };
    each = λ name onode got. let f = found name onode got in subst (IsInOrder store next) f.2 (in_order f.0 f.1);
    apart = λ a b x y at got_x got_y in_x in_y.
        let f = found a x got_x in
        let g = found b y got_y in
        let same : f.0 ≡ g.0 = one_in_range at held shares.ranges f.0 g.0 f.1 g.1 (subst (λ (o : Onode). IsInRange o at) (sym f.2) in_x) (subst (λ (o : Onode). IsInRange o at) (sym g.2) in_y) in
        sym f.3 ∙ ap (λ (h : Held). h.name) same ∙ g.3;
    begun = shares.begun;
    filled = λ at some. All-contains (λ at. (1 ≤ at) × (at < next)) filled at shares.within (is_filled at some);
  }

  -- ---- the trees

  all_trees : List Rooted
  all_trees = (1, own) ∷ flat_map trees_of held

  far_nodes : nodes_in all_trees ≡ own ++ flat_map nodes_of held
  unfolding all_trees
  far_nodes = ap (λ (ns : List ℕ). own ++ ns) (nodes_of_trees held)

  -- a root has these nodes
  record RootNodes (root : ℕ) : Type 0 where
    nodes : List ℕ
    among : Contains all_trees (root, nodes)
    has : (at : ℕ) → IsNodeOf store root at → Contains nodes at
    alone : AreAlone held root nodes

  root_nodes : (root : ℕ) → IsRoot (onodes_of held) root → RootNodes root
  unfolding all_trees
  root_nodes root (inl same) = subst RootNodes (sym same) (record {
    nodes = own;
    among = Contains-head (1, own) (flat_map trees_of held);
    has = λ at node. (tree.nodes at).1 node;
    alone = shares.alone;
  })
  root_nodes root (inr has) =
      let f = found_with (λ onode. IsOwnRoot onode root) has in
      let l = listed f.0 f.1 in
      elim f.2 [
        | inl same ↦ subst RootNodes (sym same) (record {
          nodes = f.0.attributes.nodes.items;
          among = Contains-later (1, own) (flat_map trees_of held) (f.0.onode.base.0, f.0.attributes.nodes.items) (tree_listed held f.0 (f.0.onode.base.0, f.0.attributes.nodes.items) f.1 (Contains-head (f.0.onode.base.0, f.0.attributes.nodes.items) ((f.0.onode.base.0 + 1, f.0.omap.nodes.items) ∷ [])));
          has = λ at node. (l.itself.attributes.nodes at).1 node;
          alone = All-contains (λ one. AreAlone held one.onode.base.0 one.attributes.nodes.items) held f.0 shares.attributes f.1;
        })
        | inr same ↦ subst RootNodes (sym same) (record {
          nodes = f.0.omap.nodes.items;
          among = Contains-later (1, own) (flat_map trees_of held) (f.0.onode.base.0 + 1, f.0.omap.nodes.items) (tree_listed held f.0 (f.0.onode.base.0 + 1, f.0.omap.nodes.items) f.1 (Contains-later (f.0.onode.base.0, f.0.attributes.nodes.items) ((f.0.onode.base.0 + 1, f.0.omap.nodes.items) ∷ []) (f.0.onode.base.0 + 1, f.0.omap.nodes.items) (Contains-head (f.0.onode.base.0 + 1, f.0.omap.nodes.items) [])));
          has = λ at node. (l.itself.omap.nodes at).1 node;
          alone = All-contains (λ one. AreAlone held (one.onode.base.0 + 1) one.omap.nodes.items) held f.0 shares.omaps f.1;
        })
      ]

  trees_share_none : (a b : ℕ) → IsRoot (onodes_of held) a → IsRoot (onodes_of held) b → a ≢ b → AreApart store a b
  trees_share_none a b is_a is_b other q in_a in_b =
      let first = root_nodes a is_a in
      let second = root_nodes b is_b in
      let far = subst (AreFar 1) (sym far_nodes) shares.apart in
      trees_apart all_trees far (a, first.nodes) (b, second.nodes) other first.among second.among q (first.has q in_a) (second.has q in_b)

  only_roots : (root at : ℕ) → IsRoot (onodes_of held) root → IsNodeOf store root at → HasOnodeWith (onodes_of held) (λ onode. IsInRange onode at) → at ≡ root
  only_roots root at is node within =
      let first = root_nodes root is in
      let f = found_with (λ onode. IsInRange onode at) within in
      All-contains (λ one. IsInRange one.onode at → at ≡ root) held f.0 (All-contains (IsAlone held root) first.nodes at first.alone (first.has at node)) f.1 f.2

  abbrev pub Used : ℕ → Type 0
  Used at = ((root : ℕ) × IsRoot (onodes_of held) root × IsNodeOf store root at) ⊎ HasOnodeWith (onodes_of held) (λ onode. IsDataOf onode at)

  used : (at : ℕ) → HasUse (own ++ flat_map nodes_of held) held at → Used at
  used at (inr data_of) = inr (with_onode (λ onode. IsDataOf onode at) data_of.0 data_of.1 data_of.2)
  used at (inl node) = elim (Contains-append_cases own (flat_map nodes_of held) at node) [
    | inl of_onodes ↦ inl (1, inl refl, (tree.nodes at).0 of_onodes)
    | inr of_object ↦
        let f = node_of_one held at of_object in
        let l = listed f.0 f.1 in
        elim (Contains-append_cases f.0.attributes.nodes.items f.0.omap.nodes.items at f.2) [
          | inl own_node ↦ inl (f.0.onode.base.0, inr (with_onode (λ onode. IsOwnRoot onode f.0.onode.base.0) f.0 f.1 (inl refl)), (l.itself.attributes.nodes at).0 own_node)
          | inr own_node ↦ inl (f.0.onode.base.0 + 1, inr (with_onode (λ onode. IsOwnRoot onode (f.0.onode.base.0 + 1)) f.0 f.1 (inr refl)), (l.itself.omap.nodes at).0 own_node)
        ]
  ]

  -- ---- the whole

  of_one : (name : List ℕ) → AreOfOne store (map.get (onodes_of held) name) (map.get (objects_of held) name)
  of_one name =
      subst (λ (o : Option Onode). AreOfOne store o (map.get (objects_of held) name)) (sym (onode_of name)) (subst (λ (o : Option ObjectValue). AreOfOne store (option_map (λ h. h.onode) (seek name held)) o) (sym (get_listed object_of held tree.rising name)) (by (seek name held) refl))
    where
      by : (o : Option Held) → seek name held ≡ o → AreOfOne store (option_map (λ h. h.onode) o) (option_map object_of o)
      by None sought = tt
      by (Some h) sought = object_held store h (listed h (seek_contained name held h sought).0).itself

  pub well_formed : IsWellFormed store next (objects_of held)
  well_formed = record {
    onodes = onodes_of held;
    order = order;
    each = of_one;
    shared = record {
      apart = trees_share_none;
      alone = only_roots;
      filled = λ at some. used at (All-contains (HasUse (own ++ flat_map nodes_of held) held) filled at shares.used (is_filled at some));
    };
  }

-- The nodes of the trees are alone, as one function of lists.
pub record AllAlone (own : List ℕ) (held : List Held) : Type 0 where
  pub onodes : AreAlone held 1 own
  pub attributes : All (λ one. AreAlone held one.onode.base.0 one.attributes.nodes.items) held
  pub omaps : All (λ one. AreAlone held (one.onode.base.0 + 1) one.omap.nodes.items) held

-- What is filled has its use, as one function of lists.
pub record AllUsed (next : ℕ) (filled own : List ℕ) (held : List Held) : Type 0 where
  pub apart : AreFar 1 (own ++ flat_map nodes_of held)
  pub used : All (HasUse (own ++ flat_map nodes_of held) held) filled
  pub within : All (λ at. (1 ≤ at) × (at < next)) filled
  pub ends : All (λ at. All (λ one. EndsBefore one.onode at) held) filled

pub alone_in : (own own' : List ℕ) (held held' : List Held) → own' ≡ own → held' ≡ held → AllAlone own' held' → AllAlone own held
alone_in own own' held held' same_own same_held all = subst (λ (ns : List ℕ). AllAlone ns held) same_own (subst (λ (hs : List Held). AllAlone own' hs) same_held all)

pub used_in : (next : ℕ) (filled filled' own own' : List ℕ) (held held' : List Held) → filled' ≡ filled → own' ≡ own → held' ≡ held → AllUsed next filled' own' held' → AllUsed next filled own held
used_in next filled filled' own own' held held' same_filled same_own same_held all =
    subst (λ (fs : List ℕ). AllUsed next fs own held) same_filled (subst (λ (ns : List ℕ). AllUsed next filled' ns held) same_own (subst (λ (hs : List Held). AllUsed next filled' own' hs) same_held all))

pub shared_out : (next : ℕ) (filled own : List ℕ) (held : List Held) → 2 ≤ next → AreFar 4098 (each (λ one. one.onode.base.0) held) → AllAlone own held → AllUsed next filled own held → AreShared filled next own held
shared_out next filled own held begun ranges alone used = record {
  begun = begun;
  ranges = ranges;
  apart = used.apart;
  alone = alone.onodes;
  attributes = alone.attributes;
  omaps = alone.omaps;
  used = used.used;
  within = used.within;
  ends = used.ends;
}
