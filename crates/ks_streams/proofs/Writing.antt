-- What a stream has taken, over several writes.
use Rattle.ks_streams.proofs.Prelude.{◌≡◌, inl, inr, ◌+◌, ◌-◌, ◌<◌, ◌≤◌, ◌⊎◌, ℕ, suc, refl, Bool, true, false, true≢false, IsTrue, List, [], ◌∷◌, ◌++◌, Option, Some, None, Result, Err, WriteError, Bor, subst, sym, ap, ◌∙◌, append_assoc, append-nil, take, drop, length, get_or, flat_map, drop-cons, take_rest, take-append-drop, take_more, flat_map-append, take-add, Appends, Keeps, Breaks, IsCause, IsPart, Prints, PrintsOrBreaks, State, Takes, counted, tries}

pub keeps_same : (first : Option (List ℕ)) → Keeps first first
keeps_same None = tt
keeps_same (Some x) = refl

pub appends_nothing : (first second : Option (List ℕ)) → Keeps first second → Appends first second []
appends_nothing None second k = tt
appends_nothing (Some x) None k = absurd k
appends_nothing (Some x) (Some y) k = k ∙ sym (append-nil x)

pub kept_of_nothing : (first second : Option (List ℕ)) → Appends first second [] → Keeps first second
kept_of_nothing None second a = tt
kept_of_nothing (Some x) None a = absurd a
kept_of_nothing (Some x) (Some y) a = a ∙ append-nil x

pub kept_twice : (first second third : Option (List ℕ)) → Keeps first second → Keeps second third → Keeps first third
kept_twice None second third j k = tt
kept_twice (Some x) None third j k = absurd j
kept_twice (Some x) (Some y) None j k = absurd k
kept_twice (Some x) (Some y) (Some z) j k = k ∙ j

-- an answer has one reason
pub same_refusal : {V : Type 0} (answer : Result V WriteError) (f e : WriteError) → answer ≡ Err f → answer ≡ Err e → f ≡ e
same_refusal answer f e p q = cc

-- what was appended stays
pub appended_kept : (first second third : Option (List ℕ)) (text : List ℕ) → Appends first second text → Keeps second third → Appends first third text
appended_kept None second third text a k = tt
appended_kept (Some x) None third text a k = absurd a
appended_kept (Some x) (Some y) None text a k = absurd k
appended_kept (Some x) (Some y) (Some z) text a k = k ∙ a

-- and so does what was there before
pub kept_appended : (first second third : Option (List ℕ)) (text : List ℕ) → Keeps first second → Appends second third text → Appends first third text
kept_appended None second third text k a = tt
kept_appended (Some x) None third text k a = absurd k
kept_appended (Some x) (Some y) None text k a = absurd a
kept_appended (Some x) (Some y) (Some z) text k a = a ∙ ap (λ l. l ++ text) k

-- and more is appended to it
appended_more : (first second third : Option (List ℕ)) (a b : List ℕ) → Appends first second a → Appends second third b → Appends first third (a ++ b)
appended_more None second third a b p q = tt
appended_more (Some x) None third a b p q = absurd p
appended_more (Some x) (Some y) None a b p q = absurd q
appended_more (Some x) (Some y) (Some z) a b p q = q ∙ ap (λ l. l ++ b) p ∙ append_assoc x a b

-- the next bytes of a text that is written from its front
pub written_more : (first second third : Option (List ℕ)) (xs : List ℕ) (i n : ℕ) → Appends first second (take i xs)
    → Appends second third (take n (take (length xs - i) (drop i xs))) → Appends first third (take (i + n) xs)
written_more first second third xs i n p q =
    subst (Appends first third) (ap (λ l. take i xs ++ take n l) (take_rest xs i) ∙ sym (take-add i n xs)) (appended_more first second third (take i xs) _ p q)

pub part_written : (first second third : Option (List ℕ)) (xs : List ℕ) (i : ℕ) → Appends first second (take i xs) → Keeps second third → IsPart xs first third
part_written first second third xs i p k = (take i xs, drop i xs, sym (take-append-drop i xs), appended_kept first second third (take i xs) p k)

-- no byte of it
pub no_part : (first second : Option (List ℕ)) (text : List ℕ) → Keeps first second → IsPart text first second
no_part first second text k = ([], text, refl, appends_nothing first second k)

-- what is a beginning of a text is one of each longer text
part_longer : (first second : Option (List ℕ)) (a b : List ℕ) → IsPart a first second → IsPart (a ++ b) first second
part_longer first second a b p = (p.0, p.1 ++ b, ap (λ l. l ++ b) p.2 ∙ append_assoc p.0 p.1 b, p.3)

part_kept : (first second third : Option (List ℕ)) (text : List ℕ) → IsPart text first second → Keeps second third → IsPart text first third
part_kept first second third text p k = (p.0, p.1, p.2, appended_kept first second third p.0 p.3 k)

-- a part of what stands after that which is written
part_after : (first second third : Option (List ℕ)) (a b : List ℕ) → Appends first second a → IsPart b second third → IsPart (a ++ b) first third
part_after first second third a b p part = (
  a ++ part.0,
  part.1,
  ap (λ l. a ++ l) part.2 ∙ sym (append_assoc a part.0 part.1),
  appended_more first second third a part.0 p part.3,
)

-- ---- one text after the other

pub takes_nothing : (s : State) → Takes [] s s
takes_nothing s = record {
  bytes = λ read. appends_nothing s.bytes s.bytes (keeps_same s.bytes);
  lost = λ unread. no_part s.bytes s.bytes [] (keeps_same s.bytes);
  stays = λ unread. (unread, keeps_same s.bytes);
  failures = refl;
}

-- what is read was read before
read_before : (a : List ℕ) (first second : State) → Takes a first second → second.is_unread ≡ false → (was : Bool) → first.is_unread ≡ was
    → first.is_unread ≡ false
read_before a first second p read false is = is
read_before a first second p read true is = absurd (true≢false (sym (p.stays is).0 ∙ read))

was_read : (a : List ℕ) (first second : State) → Takes a first second → second.is_unread ≡ false → first.is_unread ≡ false
was_read a first second p read = read_before a first second p read first.is_unread refl

-- a cause since a state of as many failures
pub caused : (first second third : State) → second.failures ≡ first.failures → IsCause second third → IsCause first third
caused first second third same cause = subst (λ (n : ℕ). (third.failures ≡ counted n) ⊎ (tries ≤ third.interruptions)) same cause

lost_more : (a b : List ℕ) (first second third : State) → Takes a first second → Takes b second third → third.is_unread ≡ true
    → (was : Bool) → second.is_unread ≡ was → IsPart (a ++ b) first.bytes third.bytes
lost_more a b first second third p q unread false is = part_after _ _ _ a b (p.bytes is) (q.lost unread)
lost_more a b first second third p q unread true is = part_longer _ _ a b (part_kept _ _ _ a (p.lost is) (q.stays is).1)

pub takes_more : (a b : List ℕ) (first second third : State) → Takes a first second → Takes b second third → Takes (a ++ b) first third
takes_more a b first second third p q = record {
  bytes = λ read. appended_more _ _ _ a b (p.bytes (was_read b second third q read)) (q.bytes read);
  lost = λ unread. lost_more a b first second third p q unread second.is_unread refl;
  stays = λ unread.
      let first_kept = p.stays unread in
      let second_kept = q.stays first_kept.0 in
      (second_kept.0, kept_twice _ _ _ first_kept.1 second_kept.1);
  failures = q.failures ∙ p.failures;
}

pub breaks_more : (a b : List ℕ) (first second third : State) → Takes a first second → Breaks b second third → Breaks (a ++ b) first third
breaks_more a b first second third p q = record {
  bytes = part_after _ _ _ a b (p.bytes q.is_read) q.bytes;
  is_read = was_read a first second p q.is_read;
  cause = caused first second third p.failures q.cause;
}

pub breaks_longer : (a b : List ℕ) (before after : State) → Breaks a before after → Breaks (a ++ b) before after
breaks_longer a b before after p = record { bytes = part_longer _ _ a b p.bytes; is_read = p.is_read; cause = p.cause }

pub parts_at : (parts : List (Bor (List ℕ))) (i : ℕ) (p : Bor (List ℕ)) → i < length parts → flat_map (λ q. q.now) parts
    ≡ (flat_map (λ q. q.now) (take i parts) ++ (get_or parts i p).now) ++ flat_map (λ q. q.now) (drop (suc i) parts)
parts_at parts i p within =
    ap (flat_map (λ q. q.now)) (sym (take-append-drop i parts) ∙ ap (λ l. take i parts ++ l) (drop-cons parts i p within))
    ∙ flat_map-append (λ q. q.now) (take i parts) (get_or parts i p ∷ drop (suc i) parts)
    ∙ sym (append_assoc (flat_map (λ q. q.now) (take i parts)) (get_or parts i p).now (flat_map (λ q. q.now) (drop (suc i) parts)))

-- the parts up to the next one
parts_to : (parts : List (Bor (List ℕ))) (i : ℕ) (p : Bor (List ℕ)) → i < length parts
    → flat_map (λ q. q.now) (take i parts) ++ (get_or parts i p).now ≡ flat_map (λ q. q.now) (take (i + 1) parts)
parts_to parts i p within =
    sym (ap (flat_map (λ q. q.now)) (take_more parts i p within) ∙ flat_map-append (λ q. q.now) (take i parts) (get_or parts i p ∷ [])
    ∙ ap (λ l. flat_map (λ q. q.now) (take i parts) ++ l) (append-nil (get_or parts i p).now))

pub parts_more : (parts : List (Bor (List ℕ))) (i : ℕ) (p : Bor (List ℕ)) (first second third : State) → i < length parts
    → Takes (flat_map (λ q. q.now) (take i parts)) first second → Takes (get_or parts i p).now second third
    → Takes (flat_map (λ q. q.now) (take (i + 1) parts)) first third
parts_more parts i p first second third within a b =
    subst (λ text. Takes text first third) (parts_to parts i p within) (takes_more _ _ first second third a b)

pub parts_broken : (parts : List (Bor (List ℕ))) (i : ℕ) (p : Bor (List ℕ)) (first second third : State) → i < length parts
    → Takes (flat_map (λ q. q.now) (take i parts)) first second → Breaks (get_or parts i p).now second third → Breaks (flat_map (λ q. q.now) parts) first third
parts_broken parts i p first second third within a b =
    subst (λ text. Breaks text first third) (sym (parts_at parts i p within))
    (breaks_longer _ (flat_map (λ q. q.now) (drop (suc i) parts)) first third (breaks_more _ _ first second third a b))

-- nothing of it, where nobody reads any more
pub takes_unread : (text : List ℕ) (s : State) → s.is_unread ≡ true → Takes text s s
takes_unread text s unread = record {
  bytes = λ read. absurd (true≢false (sym unread ∙ read));
  lost = λ is. no_part s.bytes s.bytes text (keeps_same s.bytes);
  stays = λ is. (is, keeps_same s.bytes);
  failures = refl;
}

-- ---- what is printed, by its answer and one text after the other

pub reported : (went : Bool) (text : List ℕ) (before after : State) → (IsTrue went → Prints text before after) → (went ≡ false → Breaks text before after)
    → PrintsOrBreaks text before after
reported true text before after whole broken = inl (whole refl)
reported false text before after whole broken = inr (broken refl)

pub reported_first : (a b : List ℕ) (before after : State) → Breaks a before after → PrintsOrBreaks (a ++ b) before after
reported_first a b before after p = inr (breaks_longer a b before after p)

pub reported_more : (a b : List ℕ) (first second third : State) → Prints a first second → PrintsOrBreaks b second third → PrintsOrBreaks (a ++ b) first third
reported_more a b first second third p (inl q) = inl (record { takes = takes_more a b first second third p.takes q.takes; seen_out = q.seen_out })
reported_more a b first second third p (inr q) = inr (breaks_more a b first second third p.takes q)
