-- Keys of an object's omap are put or taken in a row: what that leaves of a transaction, what it is in the model, and why it fails.
use Rattle.std.proofs.Common.{◌≡◌, ◌⊎◌, inl, inr, ℕ, ◌+◌, ◌<◌, ◌≤◌, ◌^◌, ◌%◌, Bool, true, false, cond, List, [], ◌∷◌, Option, Some, None, sym, ap, subst, ◌∙◌, arith}
use Rattle.std.specs.FinMap as map
use Rattle.sea_base.specs.Space.{Store, Seen, laid}
use Rattle.sea_node.specs.Entries.{Entry, Values}
use Rattle.sea_object.specs.declared.onode.Onode.{Onode}
use Rattle.sea_object.specs.declared.op.Op.TheVariants.{OmapSetKeys, OmapRmKeys}
use Rattle.sea_object.specs.declared.reply.Item.TheVariants.{Unit as Nothing}
use Rattle.sea_object.specs.declared.reply.Why.TheVariants.{OmapFull}
use Rattle.sea_object.specs.Answer as model
use Rattle.sea_object.specs.Objects.{ObjectValue, ObjectMap, with_pairs, without_keys}
use Rattle.sea_omap.specs.Changes.{Change, HasKeyForm, ChangesKeys}
use Rattle.sea_omap.specs.Calls as omap
use Rattle.sea_onode.specs.Calls.{NotesMore}
use Rattle.sea_tree.specs.declared.fault.TreeFault.{TreeFault}
use Rattle.sea_tree.specs.declared.fault.TreeFault.TheVariants.{Space, Broken}
use Rattle.sea_tree.specs.Breaks.{FillsFewer}
use Rattle.sea_ops.specs.WellFormed.{IsObjectOf}
use Rattle.sea_ops.proofs.Parts.{Part, Omap, root_of}
use Rattle.sea_ops.proofs.Putting.{put_notes, within_limit, past_limit}
use Rattle.sea_ops.proofs.Taking.{removed_notes}
use Rattle.sea_ops.proofs.Turns.{IsTurn, IsTurned, Turns}
use Rattle.sea_ops.proofs.TurnFails.{TurnFailure}

-- ---- a row of keys

key_notes : (root : ℕ) (key : List ℕ) (value found : Option (List ℕ)) (a b : Seen) → HasKeyForm root key value found a b → NotesMore a b
key_notes root key (Some value) found a b form = put_notes a b root key value form
key_notes root key None None a b reads = reads.noted
key_notes root key None (Some value) a b form = removed_notes a b root key (Some value) form

pub keys_notes : (root : ℕ) (changes : List Change) (found : List (Option (List ℕ))) (a b : Seen) → ChangesKeys root changes found a b → NotesMore a b
keys_notes root [] found a b done = subst (NotesMore a) (sym done.1) (λ at f e. e)
keys_notes root (change ∷ changes) [] a b done = absurd done
keys_notes root (change ∷ changes) (here ∷ found) a b (mid, one, rest) = λ at f e.
    keys_notes root changes found mid b rest at f (key_notes root change.0 change.1 here a mid one.form at f e)

pub counts_notes : (root : ℕ) (changes : List Change) (test : Option (List ℕ) → Bool) (count : ℕ) (a b : Seen) → omap.Counts root changes test count a b → NotesMore a b
counts_notes root changes test count a b counts = keys_notes root changes counts.found a b counts.changed

pub turns_many : (part : Part) (x : Onode) (told : Values → Type 0) (turn : Values → Values) (keys : ℕ) (a b : Seen) (root : ℕ) → (root_of part x < 2 ^ 64 → root ≡ root_of part x)
    → ((store : Store) (content : Values) → omap.Meets store root a b content → told content × omap.Becomes store root a b (turn content)) → omap.Footprint root keys a b → Turns part x told turn a b
turns_many part x told turn keys a b root root_is did footprint store content small meets =
    subst (λ (r : ℕ). IsTurned store r told turn content a b) (root_is small) (by (subst (λ (r : ℕ). omap.Meets store r a b content) (sym (root_is small)) meets))
  where
    by : omap.Meets store root a b content → IsTurned store root told turn content a b
    by m =
        let both = did store content m in
        record {
          is_told = both.0;
          tree = record { content = both.1.content; elsewhere = both.1.elsewhere; nodes = both.1.nodes; left = both.1.left };
          own = footprint.changes store content m;
        }

pub failed_many : (part : Part) (x : Onode) (root : ℕ) (changes : List Change) (a b : Seen) (fault : TreeFault) → (root_of part x < 2 ^ 64 → root ≡ root_of part x) → omap.Fails root changes a b fault → TurnFailure part x a b fault
failed_many part x root changes a b (Space fault) is failure = tt
failed_many part x root changes a b (Broken at) is failure = (
  λ q f e. failure.failure.unchanged.reads q f (keys_notes root failure.done failure.found a failure.mid failure.changed q f e),
  λ store content small meets few.
      failure.never_full store content (subst (λ (r : ℕ). omap.Meets store r a b content) (sym (is small)) meets) few,
)

-- ---- pairs are put

-- so many keys were new
abbrev pub grown_by : List Entry → ℕ → Values → Type 0
grown_by pairs count content = map.len (with_pairs pairs content) ≡ map.len content + count

pub puts_keys : (name : List ℕ) (pairs : List Entry) (count : ℕ) → IsTurn (OmapSetKeys name pairs) name Omap (grown_by pairs count) (with_pairs pairs) Nothing
puts_keys name pairs count = record {
  allowed = λ objects o has few. ap (model.refusal_at (OmapSetKeys name pairs)) has ∙ ap (λ (b : Bool). cond b (Some OmapFull) None) (within_limit 10000 (map.len (with_pairs pairs o.omap)) few);
  answers = λ objects o has told. sym (ap (model.item_at (OmapSetKeys name pairs)) has);
  effect = λ objects o has. ap (λ (z : Option ObjectValue). model.put_object (Some name) (model.object_after (OmapSetKeys name pairs) z) objects) has;
}

-- too many keys
pub keys_full : (name : List ℕ) (pairs : List Entry) (count : ℕ) (x : Onode) → 10000 < x.keys + count → (store : Store) (objects : ObjectMap) (o : ObjectValue) → map.get objects name ≡ Some o → IsObjectOf store x o → grown_by pairs count o.omap → model.refusal (OmapSetKeys name pairs) objects ≡ Some OmapFull
keys_full name pairs count x many store objects o has is told =
    ap (model.refusal_at (OmapSetKeys name pairs)) has ∙ ap (λ (b : Bool). cond b (Some OmapFull) None) (past_limit 10000 (map.len (with_pairs pairs o.omap)) (omega (arith, many, is.keys, told)))

-- ---- keys are taken

-- so many keys were there
abbrev pub shrunk_by : List (List ℕ) → ℕ → Values → Type 0
shrunk_by keys count content = map.len content ≡ map.len (without_keys keys content) + count

pub takes_keys : (name : List ℕ) (keys : List (List ℕ)) (count : ℕ) → IsTurn (OmapRmKeys name keys) name Omap (shrunk_by keys count) (without_keys keys) Nothing
takes_keys name keys count = record {
  allowed = λ objects o has few. ap (model.refusal_at (OmapRmKeys name keys)) has;
  answers = λ objects o has told. sym (ap (model.item_at (OmapRmKeys name keys)) has);
  effect = λ objects o has. ap (λ (z : Option ObjectValue). model.put_object (Some name) (model.object_after (OmapRmKeys name keys) z) objects) has;
}

-- the root of an omap, as the code finds it
pub omap_root_is : (x : Onode) (root : ℕ) → root ≡ (x.base.0 + 1) % 2 ^ 64 → root_of Omap x < 2 ^ 64 → root ≡ root_of Omap x
omap_root_is x root is small = omega (arith, is, small)
