-- What calls that are made anew come to, and what is written by several.
use Rattle.ks_streams.proofs.Prelude.{◌≡◌, ◌≤◌, ◌<◌, ◌+◌, ◌-◌, inl, inr, ℕ, true, false, true≢false, refl, List, [], take, take_all, drop, length, length-drop, take_rest, subst, sym, ◌∙◌, append-nil, arith, Appends, Keeps, Breaks, HasFailed, HasTaken, IsAborted, IsInterrupted, IsLeft, IsSeenOut, Prints, State, Takes, counted, tries}
use Rattle.ks_streams.proofs.Writing.{appends_nothing, breaks_more, caused, kept_appended, kept_twice, keeps_same, no_part, part_written, takes_more, takes_unread, written_more}

-- ---- calls that are made anew

-- so many calls were interrupted
pub record IsWaiting (n : ℕ) (before now : State) : Type 0 where
  pub bytes : Keeps before.bytes now.bytes
  pub is_unread : now.is_unread ≡ before.is_unread
  pub failures : now.failures ≡ before.failures
  pub interruptions : n ≤ now.interruptions

one_more : (n old new : ℕ) → n < 1000 → n ≤ old → new ≡ counted old → n + 1 ≤ new
one_more n old new few so_far is = omega (arith, few, so_far, is)

pub not_waiting : (s : State) → IsWaiting 0 s s
not_waiting s = record { bytes = keeps_same s.bytes; is_unread = refl; failures = refl; interruptions = omega arith }

pub waits_more : (n : ℕ) (a b c : State) → n < 1000 → IsWaiting n a b → IsInterrupted b c → IsWaiting (n + 1) a c
waits_more n a b c few w i = record {
  bytes = kept_twice _ _ _ w.bytes i.bytes;
  is_unread = i.is_unread ∙ w.is_unread;
  failures = i.failures ∙ w.failures;
  interruptions = one_more n b.interruptions c.interruptions few w.interruptions i.interruptions;
}

pub taken_after : (n : ℕ) (text : List ℕ) (a b c : State) → IsWaiting n a b → HasTaken text b c → HasTaken text a c
taken_after n text a b c w t = record {
  bytes = kept_appended _ _ _ text w.bytes t.bytes;
  is_unread = t.is_unread ∙ w.is_unread;
  held = t.held;
  failures = t.failures ∙ w.failures;
  interruptions = t.interruptions;
}

pub seen_after : (n : ℕ) (a b c : State) → IsWaiting n a b → IsSeenOut b c → IsSeenOut a c
seen_after n a b c w t = record {
  bytes = kept_twice _ _ _ w.bytes t.bytes;
  is_unread = t.is_unread ∙ w.is_unread;
  held = t.held;
  failures = t.failures ∙ w.failures;
  interruptions = t.interruptions;
}

pub left_after : (n : ℕ) (a b c : State) → IsWaiting n a b → IsLeft b c → IsLeft a c
left_after n a b c w l = record { bytes = kept_twice _ _ _ w.bytes l.bytes; is_unread = l.is_unread; failures = l.failures ∙ w.failures }

pub failed_after : (n : ℕ) (a b c : State) → IsWaiting n a b → HasFailed b c → IsAborted a c
failed_after n a b c w f = record {
  bytes = kept_twice _ _ _ w.bytes f.bytes;
  is_unread = f.is_unread ∙ w.is_unread;
  cause = caused a b c w.failures (inl f.failures);
}

enough : (n many : ℕ) → 1000 ≤ n → n ≤ many → tries ≤ many
enough n many all so_far = omega (arith, all, so_far)

pub waited : (n : ℕ) (a b : State) → 1000 ≤ n → IsWaiting n a b → IsAborted a b
waited n a b all w = record { bytes = w.bytes; is_unread = w.is_unread; cause = inr (enough n b.interruptions all w.interruptions) }

-- ---- a text by several calls

-- so many bytes of a text were taken by a writer that is read
pub record IsWriting (n : ℕ) (text : List ℕ) (before now : State) : Type 0 where
  pub within : n ≤ length text
  pub bytes : Appends before.bytes now.bytes (take n text)
  pub was_read : before.is_unread ≡ false
  pub is_read : now.is_unread ≡ false
  pub failures : now.failures ≡ before.failures

pub begun : (text : List ℕ) (s : State) → s.is_unread ≡ false → IsWriting 0 text s s
begun text s read = record {
  within = omega arith;
  bytes = appends_nothing s.bytes s.bytes (keeps_same s.bytes);
  was_read = read;
  is_read = read;
  failures = refl;
}

within_rest : (xs : List ℕ) (i n : ℕ) → i ≤ length xs → n ≤ length (take (length xs - i) (drop i xs)) → i + n ≤ length xs
within_rest xs i n within h = omega (arith, within, subst (λ l. n ≤ length l) (take_rest xs i) h, length-drop i xs)

pub goes_on : (n m : ℕ) (text : List ℕ) (a b c : State) → IsWriting n text a b → m ≤ length (take (length text - n) (drop n text))
    → HasTaken (take m (take (length text - n) (drop n text))) b c → IsWriting (n + m) text a c
goes_on n m text a b c w fits t = record {
  within = within_rest text n m w.within fits;
  bytes = written_more _ _ _ text n m w.bytes t.bytes;
  was_read = w.was_read;
  is_read = t.is_unread ∙ w.is_read;
  failures = t.failures ∙ w.failures;
}

pub left : (n : ℕ) (text : List ℕ) (a b c : State) → IsWriting n text a b → IsLeft b c → Takes text a c
left n text a b c w l = record {
  bytes = λ read. absurd (true≢false (sym l.is_unread ∙ read));
  lost = λ unread. part_written _ _ _ text n w.bytes l.bytes;
  stays = λ unread. absurd (true≢false (sym unread ∙ w.was_read));
  failures = l.failures ∙ w.failures;
}

pub ended : (n : ℕ) (text : List ℕ) (a b c : State) → IsWriting n text a b → IsAborted b c → Breaks text a c
ended n text a b c w g = record {
  bytes = part_written _ _ _ text n w.bytes g.bytes;
  is_read = w.was_read;
  cause = caused a b c w.failures g.cause;
}

pub written : (n : ℕ) (text : List ℕ) (a b : State) → IsWriting n text a b → length text ≤ n → Takes text a b
written n text a b w all = record {
  bytes = λ read. subst (Appends a.bytes b.bytes) (take_all n text all) w.bytes;
  lost = λ unread. absurd (true≢false (sym unread ∙ w.is_read));
  stays = λ unread. absurd (true≢false (sym unread ∙ w.was_read));
  failures = w.failures;
}

-- ---- what is let go

pub prints_unread : (s : State) → s.is_unread ≡ true → Prints [] s s
prints_unread s unread = record { takes = takes_unread [] s unread; seen_out = λ read. absurd (true≢false (sym unread ∙ read)) }

pub prints_seen : (a b : State) → IsSeenOut a b → Prints [] a b
prints_seen a b s = record {
  takes = record {
    bytes = λ read. appends_nothing a.bytes b.bytes s.bytes;
    lost = λ unread. no_part a.bytes b.bytes [] s.bytes;
    stays = λ unread. (s.is_unread ∙ unread, s.bytes);
    failures = s.failures;
  };
  seen_out = λ read. s.held;
}

pub prints_left : (a b : State) → IsLeft a b → Prints [] a b
prints_left a b l = record {
  takes = record {
    bytes = λ read. appends_nothing a.bytes b.bytes l.bytes;
    lost = λ unread. no_part a.bytes b.bytes [] l.bytes;
    stays = λ unread. (l.is_unread, l.bytes);
    failures = l.failures;
  };
  seen_out = λ read. absurd (true≢false (sym l.is_unread ∙ read));
}

pub breaks_aborted : (a b : State) → a.is_unread ≡ false → IsAborted a b → Breaks [] a b
breaks_aborted a b read g = record { bytes = no_part a.bytes b.bytes [] g.bytes; is_read = read; cause = g.cause }

pub printed : (text : List ℕ) (a b c : State) → Takes text a b → Prints [] b c → Prints text a c
printed text a b c p q = record {
  takes = subst (λ t. Takes t a c) (append-nil text) (takes_more text [] a b c p q.takes);
  seen_out = q.seen_out;
}

pub broken : (text : List ℕ) (a b c : State) → Takes text a b → Breaks [] b c → Breaks text a c
broken text a b c p q = subst (λ t. Breaks t a c) (append-nil text) (breaks_more text [] a b c p q)
