-- What holds below a root's link, said of the root.
use Rattle.std.proofs.Common.{◌≡◌, ℕ, suc, List, Option, Some, None, sym, ap, subst, ◌∙◌}
use Rattle.std.specs.Prelude.{◌↔◌}
use Rattle.std.specs.Ordering.{nat_cmp}
use Rattle.std.specs.FinMap.{get, get-entries}
use Rattle.std.specs.FinMap.Entries.{find}
use Rattle.sea_base.specs.declared.place.Slot.{Slot}
use Rattle.sea_ptree.specs.declared.kind.Kind.{Kind}
use Rattle.sea_ptree.specs.declared.link.Link.{Link}
use Rattle.sea_ptree.specs.Blocks.{Image}
use Rattle.sea_ptree.specs.Tree.{Item, Holds, Leads, LeadsFrom, Content, IsTreeOf}
use Rattle.sea_ptree.proofs.Items.{all_pairs}

pub root_leads : (kind : Kind) (image : Image) (height level : ℕ) (link : Link) (key : ℕ) (found : Option Slot) → height ≡ suc level → ((slot : Slot) → (found ≡ Some slot) ↔ Leads kind image level link key slot) → (slot : Slot) → (found ≡ Some slot) ↔ LeadsFrom kind image height link key slot
root_leads kind image height level link key found is leads slot = subst (λ (h : ℕ). (found ≡ Some slot) ↔ LeadsFrom kind image h link key slot) (sym is) (leads slot)

pub no_leads : (kind : Kind) (image : Image) (height : ℕ) (link : Link) (key : ℕ) → height ≡ 0 → (slot : Slot) → (None ≡ Some slot) ↔ LeadsFrom kind image height link key slot
no_leads kind image height link key is slot = subst (λ (h : ℕ). (None ≡ Some slot) ↔ LeadsFrom kind image h link key slot) (sym is) (λ e. absurd cc, λ no. absurd no)

content_found : (kind : Kind) (image : Image) (level : ℕ) (link : Link) (key : ℕ) (found : Option Slot) → ((items : List (Item level)) → Holds kind image level link items → found ≡ find nat_cmp key (all_pairs level items))
    → (content : Content) (places : List ℕ) → IsTreeOf kind image (suc level) link content places → found ≡ get content key
content_found kind image level link key found held content places tree = held tree.0 tree.1 ∙ ap (find nat_cmp key) (sym tree.3) ∙ sym (get-entries content key)

pub root_content : (kind : Kind) (image : Image) (height level : ℕ) (link : Link) (key : ℕ) (found : Option Slot) → height ≡ suc level → ((items : List (Item level)) → Holds kind image level link items → found ≡ find nat_cmp key (all_pairs level items))
    → (content : Content) (places : List ℕ) → IsTreeOf kind image height link content places → found ≡ get content key
root_content kind image height level link key found is held content places =
    subst (λ (h : ℕ). IsTreeOf kind image h link content places → found ≡ get content key) (sym is) (content_found kind image level link key found held content places)

pub no_content : (kind : Kind) (image : Image) (height : ℕ) (link : Link) (key : ℕ) → height ≡ 0 → (content : Content) (places : List ℕ) → IsTreeOf kind image height link content places → None ≡ get content key
no_content kind image height link key is content places =
    subst (λ (h : ℕ). IsTreeOf kind image h link content places → None ≡ get content key) (sym is) (λ tree. ap (find nat_cmp key) (sym tree.2) ∙ sym (get-entries content key))
