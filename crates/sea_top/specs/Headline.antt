-- What the command `steps` promises, of the device, the source and the sink that it was given.
use Rattle.std.specs.Prelude.{◌≡◌, ◌⊎◌, ℕ, ◌-◌, ◌≤◌, List, [], ◌++◌, length, take, Option, Some, None, IfSome}
use Rattle.std.specs.List.{flat_map}
use Rattle.sea_plain.specs.Objects.{ObjectMap}
use Rattle.sea_plain_script.specs.declared.plan.Asked.{Asked}
use Rattle.sea_plain_script.specs.declared.history.Entry.{Entry}
use Rattle.sea_top.specs.declared.record.PlainRecord.{PlainRecord}
use Rattle.sea_top.specs.declared.refusal.Refusal.{Refusal}
use Rattle.sea_top.specs.declared.refusal.Refusal.TheVariants.{Usage, Script, DeviceFault, NoMemory, ReadFault}
use Rattle.sea_top.specs.Crash.{Crashes, IsUnwritten}
use Rattle.sea_top.specs.History.{Legal, Serves, ServesFully}
use Rattle.sea_top.specs.Refusal.{status_at, ending_line}
use Rattle.sea_plain_script.specs.Render.{entry_line, end_line}
use Rattle.sea_top.specs.Room.{KeepsRoom}
use Rattle.sea_plain_script.specs.Script.{IsScript, IsRefusedAt}
use Rattle.sea_top.specs.Trail.{IsTrail, Opens, chain_end, objects_of}

-- The device's bytes open to these objects, and so does each image that a crash may leave.
pub record KeepsObjects (contents : Option (List ℕ)) (leaves : List ℕ → Type 0) (objects : ObjectMap) : Type 0 where
  pub image : List ℕ
  pub held : contents ≡ Some image
  pub opens : Opens image objects
  pub crash : (c : List ℕ) → leaves c → Opens c objects

-- what is printed after an opening: the acknowledged entries, the closing line, the refusal's line
abbrev pub run_text : List Entry → ℕ → Option Refusal → List ℕ
run_text history acknowledged ending =
    flat_map entry_line (take acknowledged history) ++ end_line acknowledged 0 ++ ending_line ending

-- The text was printed and the status is that of the ending; or memory ran out (5) before any of it was; or the
-- sink failed (7) behind a front of it.
pub data Prints (text : Option Refusal → List ℕ) (ending : Option Refusal) (status : ℕ) (printed : List ℕ) : Type 0 where
  whole : status ≡ status_at ending → printed ≡ text ending → Prints text ending status printed
  nothing : status ≡ 5 → printed ≡ [] → Prints text ending status printed
  front : status ≡ 7 → (rest : List ℕ) → text ending ≡ printed ++ rest → Prints text ending status printed

-- What a run serves of a plan over a device that held this image of so many blocks.
pub record Serving (plan : List Asked) (image : List ℕ) (blocks : ℕ) (history : List Entry) (acknowledged : ℕ) (ending : Option Refusal) (contents : Option (List ℕ)) (leaves before : List ℕ → Type 0) (start now : ℕ) (since : ℕ → List ℕ → Type 0) : Type 0 where
  pub records : List PlainRecord
  pub trail : IsTrail image records
  pub last : ObjectMap
  pub left : ℕ
  -- the history is legal from the objects of the image, and serves the plan
  pub legal : Legal plan (objects_of records) history last
  pub serves : Serves plan history
  -- each request is answered full exactly where its record needs more blocks than are left
  pub room : KeepsRoom plan (blocks - chain_end 0 records) history left
  pub within : acknowledged ≤ length history
  -- where nothing is refused, all of the plan is served, acknowledged and kept
  pub all : ending ≡ None → acknowledged ≡ length history
  pub fully : ending ≡ None → ServesFully plan history
  pub kept : ending ≡ None → KeepsObjects contents leaves last
  -- a crash leaves a front of the history, with each acknowledged entry once the run has returned
  pub crash : Crashes image plan (objects_of records) history acknowledged contents leaves before start now since

-- what may end a run: want of memory, or a fault of the device
abbrev pub EndsRun : Option Refusal → Type 0
EndsRun ending = IfSome ending (λ refusal. (refusal ≡ NoMemory) ⊎ (refusal ≡ DeviceFault))

-- What came of a plan over a device: its opening was refused, or it was served; and what was printed.
pub data Comes (plan : List Asked) (image : List ℕ) (blocks status : ℕ) (printed : List ℕ) (contents : Option (List ℕ)) (leaves before : List ℕ → Type 0) (start now : ℕ) (since : ℕ → List ℕ → Type 0) : Type 0 where
  not_opened : (refusal : Refusal) → (refusal ≡ NoMemory) ⊎ (refusal ≡ DeviceFault) → IsUnwritten image contents leaves before (since start) → Prints ending_line (Some refusal) status printed → Comes plan image blocks status printed contents leaves before start now since
  served : (history : List Entry) (acknowledged : ℕ) (ending : Option Refusal) → Serving plan image blocks history acknowledged ending contents leaves before start now since → EndsRun ending → Prints (run_text history acknowledged) ending status printed → Comes plan image blocks status printed contents leaves before start now since

-- A line that is named as refused is the first of another form. Words that are right are not refused.
abbrev pub IsRefusedFor : List ℕ → Refusal → Type 0
IsRefusedFor input (Script line why) = IsRefusedAt input line
IsRefusedFor input Usage = ⊥
IsRefusedFor input DeviceFault = Unit {0}
IsRefusedFor input NoMemory = Unit {0}
IsRefusedFor input ReadFault = Unit {0}

-- What was printed of a history: where the command ended before its opening was done, the refusal's line alone,
-- and nothing was served; else the text of the run, whose input was a script.
pub data Tells (input : List ℕ) (plan : List Asked) (history : List Entry) (acknowledged status : ℕ) (printed : List ℕ) : Type 0 where
  refused : (refusal : Refusal) → history ≡ [] → IsRefusedFor input refusal → Prints ending_line (Some refusal) status printed → Tells input plan history acknowledged status printed
  ran : (ending : Option Refusal) → IsScript input plan → EndsRun ending → Prints (run_text history acknowledged) ending status printed → Tells input plan history acknowledged status printed

-- the history was served over the objects that the image opens to, and in the room behind its trail
pub record IsOver (image : List ℕ) (blocks : ℕ) (plan : List Asked) (first : ObjectMap) (history : List Entry) : Type 0 where
  pub records : List PlainRecord
  pub trail : IsTrail image records
  pub objects_are : first ≡ objects_of records
  pub left : ℕ
  pub room : KeepsRoom plan (blocks - chain_end 0 records) history left

-- All is read, served, acknowledged and kept.
pub record IsServed (input image : List ℕ) (blocks : ℕ) (plan : List Asked) (first : ObjectMap) (history : List Entry) (last : ObjectMap) (acknowledged : ℕ) (unread contents : Option (List ℕ)) (leaves : List ℕ → Type 0) : Type 0 where
  pub script : IsScript input plan
  pub read : unread ≡ Some []
  pub over : IsOver image blocks plan first history
  pub all : acknowledged ≡ length history
  pub fully : ServesFully plan history
  pub kept : KeepsObjects contents leaves last

-- The headline of `steps`: there is a history of which all of this holds.
pub record Headline (input image : List ℕ) (blocks status : ℕ) (printed : List ℕ) (unread contents : Option (List ℕ)) (leaves before : List ℕ → Type 0) (start now : ℕ) (since : ℕ → List ℕ → Type 0) : Type 0 where
  pub plan : List Asked
  pub history : List Entry
  pub acknowledged : ℕ
  pub first : ObjectMap
  pub last : ObjectMap
  -- it is legal from the objects of the image that came in, and serves the plan of the script
  pub script : (history ≡ []) ⊎ IsScript input plan
  pub over : (history ≡ []) ⊎ IsOver image blocks plan first history
  pub legal : Legal plan first history last
  pub serves : Serves plan history
  -- its acknowledged entries were printed
  pub tells : Tells input plan history acknowledged status printed
  -- with status 0 all is read, served, acknowledged and kept
  pub served : status ≡ 0 → IsServed input image blocks plan first history last acknowledged unread contents leaves
  -- a crash leaves a prefix of it; or it is empty, and nothing was written
  pub crash : ((history ≡ []) × IsUnwritten image contents leaves before (since start)) ⊎ Crashes image plan first history acknowledged contents leaves before start now since
