-- What is read of an object: its bytes, one after the other, and the object beside those before it.
use Rattle.std.proofs.Common.{◌≡◌, ℕ, ◌+◌, ◌/◌, ◌%◌, ◌^◌, ◌<◌, List, [], ◌∷◌, ◌++◌, length, get_or, take, Option, refl, sym, ap, subst, ◌∙◌, arith, add-one}
use Rattle.std.proofs.Math.Seq.{take-suc}
use Rattle.std.proofs.lemmas.List.{map-append}
use Rattle.std.proofs.lemmas.List.Elements.{All-push}
use Rattle.std.proofs.lemmas.List.FromFn.{map-range_with_len_more}
use Rattle.sea_base.specs.Space.{Store}
use Rattle.sea_node.specs.Entries.{Entry}
use Rattle.sea_object.specs.declared.onode.Onode.{Onode}
use Rattle.sea_data.specs.Bytes.{block_address, block_byte, byte_at, bytes_from}
use Rattle.sea_onode.specs.Spelling.{Spells, onode_bytes}
use Rattle.sea_formed.specs.declared.object.Held.{Held}
use Rattle.sea_formed.specs.Held.{IsWithinLimits, IsHeld, IsListed, AreHeld, pair_of}

address_small : (n : ℕ) → n < 2 ^ 64 → n % 2 ^ 64 ≡ n
address_small n small = omega arith

pub byte_there : (s : Store) (base k : ℕ) (o : Option (List ℕ)) → base + 4098 < 2 ^ 64 → k < 16777216 → o ≡ s (base + 2 + k / 4096) → block_byte o (k % 4096) ≡ byte_at s base k
unfolding byte_at block_address
byte_there s base k o small few here =
    let at : (base + 2 + k / 4096) % 2 ^ 64 ≡ base + 2 + k / 4096 = address_small (base + 2 + k / 4096) (omega arith) in
    ap (λ (b : Option (List ℕ)). block_byte b (k % 4096)) (here ∙ ap s (sym at))

pub bytes_none : (s : Store) (base : ℕ) → bytes_from s base 0 0 ≡ []
unfolding bytes_from
bytes_none s base = refl

pub bytes_more : (s : Store) (base n : ℕ) → bytes_from s base 0 (n + 1) ≡ bytes_from s base 0 n ++ byte_at s base n ∷ []
unfolding bytes_from
bytes_more s base n = map-range_with_len_more (byte_at s base) 0 n n (omega arith)

module _ (store : Store) (next : ℕ) where
  pub listed_one : (h : Held) (item : Entry) (onode : Onode) (value : List ℕ) → IsHeld store h → h.name ≡ item.0 → h.onode ≡ onode → Spells value onode → value ≡ item.1 → IsWithinLimits next onode → IsListed store next h × (pair_of h ≡ item)
  listed_one h item onode value held name same spells is limits =
      let bytes : onode_bytes h.onode ≡ item.1 = ap onode_bytes same ∙ sym spells.spelled ∙ is in (
        record {
          itself = held;
          spelled = subst (λ (o : Onode). Spells (onode_bytes o) o) (sym same) (subst (λ (b : List ℕ). Spells b onode) spells.spelled spells);
          limits = subst (IsWithinLimits next) (sym same) limits;
        },
        λ i. (name i, bytes i),
      )

  pub held_more : (pairs : List Entry) (index : ℕ) (held : List Held) (h : Held) (item : Entry) → index < length pairs → item ≡ get_or pairs index item → AreHeld store next (take index pairs) held → IsListed store next h × (pair_of h ≡ item) → AreHeld store next (take (index + 1) pairs) (held ++ h ∷ [])
  held_more pairs index held h item within is read one = record {
    pairs_are =
        map-append pair_of held (h ∷ []) ∙ ap (λ (ps : List Entry). ps ++ pair_of h ∷ []) read.pairs_are ∙ ap (λ (e : Entry). take index pairs ++ e ∷ []) (one.1 ∙ is)
        ∙ sym (ap (λ (n : ℕ). take n pairs) (add-one index) ∙ take-suc pairs index item within);
    all = All-push (IsListed store next) held h read.all one.0;
  }
