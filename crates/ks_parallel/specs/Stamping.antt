-- Records of several processes that make missing stamps too, as those do for a build that goes by dependency files. Several of them may make one stamp.
use Rattle.std.specs.Prelude.{◌≡◌, ◌⊎◌, ℕ, List, [], ◌∷◌, Option, Some, Bool, true, false, bytes_eq, IsTrue, ⊤}
use Rattle.std.specs.List.{list_any}
use Rattle.ks_symbols.specs.Names.{is_in, is_name}
use Rattle.ks_tree.specs.Files.{Files, content, kept_or}
use Rattle.ks_tree.specs.Paths.{stamp_path}
use Rattle.ks_engine.specs.History.{History}
use Rattle.ks_engine.specs.Shows.{Shows}
use Rattle.ks_parallel.specs.Calls.{Call, Nothing, after, Finds, put, uses, view}
use Rattle.ks_parallel.specs.Orders.{own, all, EachOf, IsOrderOf, KeepsApart}
use Rattle.ks_parallel.specs.Views.{Jobs, AreApart, SeesPlaces, is_others_job, without}
use Rattle.ks_parallel.specs.Shuffles.{RecordEvent, IsOfJob, with_records}

-- What is done: a call, or the stamp of a name is made, unless there is one.
pub data Act : Type 0 where
  Calls : (call : Call) → Act
  Makes : (name : List ℕ) → Act

-- what of it is a call
abbrev pub call_of : Act → Call
call_of (Calls c) = c
call_of (Makes x) = Nothing

-- the files after it, and after several
abbrev pub after_act : Files → Act → Files
after_act files (Calls c) = after files c
after_act files (Makes x) = put files (stamp_path x) (Some (kept_or (content files (stamp_path x)) []))

abbrev pub after_acts : Files → List Act → Files
after_acts files [] = files
after_acts files (a ∷ acts) = after_acts (after_act files a) acts

-- What each of them read stands there.
abbrev pub AllActsFind : Files → List Act → Type 0
AllActsFind files [] = ⊤
AllActsFind files (a ∷ acts) = Finds files (call_of a) × AllActsFind (after_act files a) acts

abbrev pub is_stamp_of : List (List ℕ) → List ℕ → Bool
is_stamp_of names q = list_any (λ x. bytes_eq (stamp_path x) q) names

-- Of these names the stamps are made, and no call uses one of them.
abbrev pub KeepsOff : List (List ℕ) → Act → Type 0
KeepsOff names (Calls c) = (q : List ℕ) → uses c q ≡ true → is_stamp_of names q ≡ false
KeepsOff names (Makes x) = is_in names x ≡ true

-- Processes whose calls keep apart, and which make the stamps of these names and don't use them.
pub record MakeStampsApart (seen : ℕ → List ℕ → Bool) (names : List (List ℕ)) (acts : List (ℕ × Act)) : Type 0 where
  pub apart : EachOf (λ i a. KeepsApart seen i (call_of a)) acts
  pub off : EachOf (λ i a. KeepsOff names a) acts

-- To a process its view is the whole tree still: its own acts alone find the same, and leave the same at each path that it sees but for these stamps.
abbrev pub StampersAreApart : Type 0
StampersAreApart =
    (seen : ℕ → List ℕ → Bool) (names : List (List ℕ)) (files : Files) (acts : List (ℕ × Act)) (i : ℕ) → MakeStampsApart seen names acts
    → AllActsFind files (all acts)
    → AllActsFind (view (seen i) files) (own i acts)
    × ((q : List ℕ) → seen i q ≡ true → is_stamp_of names q ≡ false
    → content (after_acts files (all acts)) q ≡ content (after_acts (view (seen i) files) (own i acts)) q)

-- Any other order of the same acts finds the same and leaves the same files.
abbrev pub StampOrdersLeaveTheSame : Type 0
StampOrdersLeaveTheSame =
    (seen : ℕ → List ℕ → Bool) (names : List (List ℕ)) (files : Files) (acts other : List (ℕ × Act)) → MakeStampsApart seen names acts
    → IsOrderOf (λ i. own i acts) other → AllActsFind files (all acts)
    → AllActsFind files (all other) × (after_acts files (all other) ≡ after_acts files (all acts))

-- the file as it was, or an empty one where there was none
abbrev pub IsOrMade : Option (List ℕ) → Option (List ℕ) → Type 0
IsOrMade old new = (new ≡ old) ⊎ (new ≡ Some (kept_or old []))

-- Whoever makes them, the stamps are as they were, or empty where they were missing.
abbrev pub StampsStay : Type 0
StampsStay =
    (seen : ℕ → List ℕ → Bool) (names : List (List ℕ)) (files : Files) (acts : List (ℕ × Act)) (q : List ℕ) → MakeStampsApart seen names acts
    → is_stamp_of names q ≡ true → IsOrMade (content files q) (content (after_acts files (all acts)) q)

-- Where the own acts of each process, made alone of what it sees, lead to files that show its records, all together lead to files that show each shuffle
-- of the records.
abbrev pub StampersSideBySide : Type 0
StampersSideBySide =
    (jobs : Jobs) (seen : ℕ → List ℕ → Bool) (names : List (List ℕ)) (files : Files) (h : History) (acts : List (ℕ × Act)) (shuffle : List (ℕ × RecordEvent))
    → AreApart jobs → SeesPlaces jobs seen → ((x : List ℕ) → is_in names x ≡ true → IsTrue (is_name x)) → EachOf (IsOfJob jobs) shuffle → Shows files h
    → MakeStampsApart seen names acts → AllActsFind files (all acts)
    → ((i : ℕ) → Shows (after_acts (view (seen i) files) (own i acts)) (with_records (without (is_others_job jobs i) h) (own i shuffle)))
    → Shows (after_acts files (all acts)) (with_records h (all shuffle))
