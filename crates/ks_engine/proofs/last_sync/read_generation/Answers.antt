use Rattle.ks_engine.proofs.Prelude.{◌≡◌, ◌<◌, ◌++◌, inr, sym, ap, ◌∙◌, take, length, content, auto_path, err_from_is_err_and, arith, rules}
use Rattle.std.proofs.Common.{length-append, length-take-le}
use Rattle.ks_tree.specs.declared.fault.TreeFault.TheVariants as fault
use Rattle.ks_engine.proofs.Reading.{last_none, last_refused, last_some, last_zero, old_fault, old_refused}
use Rattle.ks_engine.proofs.Pieces.{back, full_text, kept_text, large_text, last_text}
use Rattle.ks_engine.proofs.last_sync.read_generation.Goals as goal

pub returns-in_default-clause-read : goal.returns-in_default-clause-read
returns-in_default-clause-read g c = λ honest.
    inr (last_none _ (ap (λ f. content f auto_path) (sym (c.loop-buffer.invariant.unchanged honest)) ∙ rw c.in_default.is at (c.in_ok-end.ensures.read honest)))

pub returns-in_err-generation-clause-read : goal.returns-in_err-generation-clause-read
returns-in_err-generation-clause-read g c = λ honest.
    let stood = c.loop-buffer.invariant.stands in
    let long : c.loop-buffer.buffer.len ≡ length c.loop-buffer.buffer.items = search rules in
    let there = back c.loop-buffer.buffer.len c.read_behind.new.buffer c.loop-buffer.buffer.items long (c.read_behind.ensures.len ∙ ap length c.deref_mut.ensures.value) in
    let room : c.len.result ≡ length c.read_behind.new.buffer = search (rules, there) in
    let bounds = rw c.in-Some.is at c.in_ok-end.ensures.within in
    let read = rw (c.in-Some.is, c.loop-buffer.invariant.unchanged honest, c.deref_mut.ensures.value) at (c.in_ok-end.ensures.read honest) in
    let same = c.deref.ensures.value ∙ there in
    let more : c.in-Some.end < length c.read_behind.new.buffer = omega (arith, c.if-end-len.true, room) in
    let at = last_text _ stood.0 c.loop-buffer.buffer.items c.read_behind.new.buffer _ _ _ (stood.3 honest) read more in
    let p = err_from_is_err_and c.from_residual-in_err-generation.result c.from_residual-in_err-generation.ensures.1 in
    let refusal = rw same at (c.in_err-generation.ensures.refusal stood.0 stood.1) in
    rw (p.1, p.2) (last_refused _ _ (old_refused _ _ _ at refusal))

pub returns-then-generation-eq0-clause-read : goal.returns-then-generation-eq0-clause-read
returns-then-generation-eq0-clause-read g c = λ honest.
    let stood = c.loop-buffer.invariant.stands in
    let long : c.loop-buffer.buffer.len ≡ length c.loop-buffer.buffer.items = search rules in
    let there = back c.loop-buffer.buffer.len c.read_behind.new.buffer c.loop-buffer.buffer.items long (c.read_behind.ensures.len ∙ ap length c.deref_mut.ensures.value) in
    let room : c.len.result ≡ length c.read_behind.new.buffer = search (rules, there) in
    let bounds = rw c.in-Some.is at c.in_ok-end.ensures.within in
    let read = rw (c.in-Some.is, c.loop-buffer.invariant.unchanged honest, c.deref_mut.ensures.value) at (c.in_ok-end.ensures.read honest) in
    let same = c.deref.ensures.value ∙ there in
    let more : c.in-Some.end < length c.read_behind.new.buffer = omega (arith, c.if-end-len.true, room) in
    let at = last_text _ stood.0 c.loop-buffer.buffer.items c.read_behind.new.buffer _ _ _ (stood.3 honest) read more in
    let fine = rw same at (c.in_ok-generation.ensures.refusal stood.0 stood.1) in
    let is = rw same at (c.in_ok-generation.ensures.generation stood.0 stood.1) in
    inr (last_zero _ _ _ at fine is c.if-generation-eq0.true)

pub returns-then-end-len-clause-read : goal.returns-then-end-len-clause-read
returns-then-end-len-clause-read g c = λ honest.
    let stood = c.loop-buffer.invariant.stands in
    let long : c.loop-buffer.buffer.len ≡ length c.loop-buffer.buffer.items = search rules in
    let there = back c.loop-buffer.buffer.len c.read_behind.new.buffer c.loop-buffer.buffer.items long (c.read_behind.ensures.len ∙ ap length c.deref_mut.ensures.value) in
    let room : c.len.result ≡ length c.read_behind.new.buffer = search (rules, there) in
    let bounds = rw c.in-Some.is at c.in_ok-end.ensures.within in
    let read = rw (c.in-Some.is, c.loop-buffer.invariant.unchanged honest, c.deref_mut.ensures.value) at (c.in_ok-end.ensures.read honest) in
    let same = c.deref.ensures.value ∙ there in
    let more : c.in-Some.end < length c.read_behind.new.buffer = omega (arith, c.if-end-len.true, room) in
    let at = last_text _ stood.0 c.loop-buffer.buffer.items c.read_behind.new.buffer _ _ _ (stood.3 honest) read more in
    let fine = rw same at (c.in_ok-generation.ensures.refusal stood.0 stood.1) in
    let is = rw same at (c.in_ok-generation.ensures.generation stood.0 stood.1) in
    last_some _ _ _ at fine is c.if-generation-eq0.false

pub returns-in_err-taken-clause-read : goal.returns-in_err-taken-clause-read
returns-in_err-taken-clause-read g c = λ honest.
    let stood = c.loop-buffer.invariant.stands in
    let long : c.loop-buffer.buffer.len ≡ length c.loop-buffer.buffer.items = search rules in
    let there = back c.loop-buffer.buffer.len c.read_behind.new.buffer c.loop-buffer.buffer.items long (c.read_behind.ensures.len ∙ ap length c.deref_mut.ensures.value) in
    let room : c.len.result ≡ length c.read_behind.new.buffer = search (rules, there) in
    let bounds = rw c.in-Some.is at c.in_ok-end.ensures.within in
    let same = c.deref-in-loop-buffer.ensures.value ∙ there in
    let all : c.in-Some.end ≡ length c.read_behind.new.buffer = omega (arith, c.if-end-len.false, room, bounds.1) in
    let read = rw (c.in-Some.is, c.loop-buffer.invariant.unchanged honest, c.deref_mut.ensures.value) at (c.in_ok-end.ensures.read honest) in
    let p = err_from_is_err_and c.from_residual-in_err-taken.result c.from_residual-in_err-taken.ensures.1 in
    let refused = c.in_err-taken.ensures.refused stood.0 stood.1 in
    let large = large_text _ stood.0 c.loop-buffer.buffer.items c.read_behind.new.buffer _ _ _ (stood.3 honest) read all (rw same at refused.1) in
    rw (p.1, p.2, refused.0) (last_refused _ _ (old_fault fault.TooLarge _ (λ _. large)))

pub keep_rest-requires-clause-small : goal.keep_rest-requires-clause-small
keep_rest-requires-clause-small g c =
    let stood = c.loop-buffer.invariant.stands in
    let long : c.loop-buffer.buffer.len ≡ length c.loop-buffer.buffer.items = search rules in
    let there = back c.loop-buffer.buffer.len c.read_behind.new.buffer c.loop-buffer.buffer.items long (c.read_behind.ensures.len ∙ ap length c.deref_mut.ensures.value) in
    let room : c.len.result ≡ length c.read_behind.new.buffer = search (rules, there) in
    let bounds = rw c.in-Some.is at c.in_ok-end.ensures.within in
    let same = c.deref-in-loop-buffer.ensures.value ∙ there in
    let all : c.in-Some.end ≡ length c.read_behind.new.buffer = omega (arith, c.if-end-len.false, room, bounds.1) in
    let fit = rw same at (c.in_ok-taken.ensures.small stood.0 stood.1) in
    let parts = length-append stood.0 c.read_behind.new.buffer in
    omega (arith, ap length there, fit, parts)

pub loop-buffer-smaller : goal.loop-buffer-smaller
loop-buffer-smaller g c =
    let stood = c.loop-buffer.invariant.stands in
    let long : c.loop-buffer.buffer.len ≡ length c.loop-buffer.buffer.items = search rules in
    let there = back c.loop-buffer.buffer.len c.read_behind.new.buffer c.loop-buffer.buffer.items long (c.read_behind.ensures.len ∙ ap length c.deref_mut.ensures.value) in
    let room : c.len.result ≡ length c.read_behind.new.buffer = search (rules, there) in
    let bounds = rw c.in-Some.is at c.in_ok-end.ensures.within in
    let same = c.deref-in-loop-buffer.ensures.value ∙ there in
    let all : c.in-Some.end ≡ length c.read_behind.new.buffer = omega (arith, c.if-end-len.false, room, bounds.1) in
    let fit = rw same at (c.in_ok-taken.ensures.small stood.0 stood.1) in
    let parts = length-append stood.0 c.read_behind.new.buffer in
    let before = c.loop-buffer.invariant.within in
    let lens = c.read_behind.ensures.len ∙ ap length c.deref_mut.ensures.value in
    let at = stood.2 in
    omega (arith, before, lens, all, fit, parts, at)

pub loop-buffer-preserved : goal.loop-buffer-preserved
loop-buffer-preserved g c =
    let stood = c.loop-buffer.invariant.stands in
    let long : c.loop-buffer.buffer.len ≡ length c.loop-buffer.buffer.items = search rules in
    let there = back c.loop-buffer.buffer.len c.read_behind.new.buffer c.loop-buffer.buffer.items long (c.read_behind.ensures.len ∙ ap length c.deref_mut.ensures.value) in
    let room : c.len.result ≡ length c.read_behind.new.buffer = search (rules, there) in
    let bounds = rw c.in-Some.is at c.in_ok-end.ensures.within in
    let same = c.deref-in-loop-buffer.ensures.value ∙ there in
    let all : c.in-Some.end ≡ length c.read_behind.new.buffer = omega (arith, c.if-end-len.false, room, bounds.1) in
    let fit = rw same at (c.in_ok-taken.ensures.small stood.0 stood.1) in
    let parts = length-append stood.0 c.read_behind.new.buffer in
    let before = c.loop-buffer.invariant.within in
    let lens = c.read_behind.ensures.len ∙ ap length c.deref_mut.ensures.value in
    let at = stood.2 in
    let count = c.in_ok-kept.ensures.count in
    let rest = rw there at c.in_ok-kept.ensures.rest in
    let taken : length (take c.in_ok-taken.taken c.read_behind.new.buffer) ≡ c.in_ok-taken.taken =
    length-take-le _ _ (omega (arith, count, ap length there)) in
    let both = length-append stood.0 (take c.in_ok-taken.taken c.read_behind.new.buffer) in
    record {
      unchanged = λ honest. c.in_ok-end.ensures.unchanged honest ∙ c.loop-buffer.invariant.unchanged honest;
      kept = search rules;
      same = search rules;
      within = c.in_ok-kept.ensures.more;
      buffer = c.in_ok-kept.ensures.small;
      small = omega (arith, before, lens, all, fit, parts, at);
      stands = (
        stood.0 ++ take c.in_ok-taken.taken c.read_behind.new.buffer,
        rw same at (c.in_ok-taken.ensures.stands stood.0 stood.1),
        omega (arith, before, all, at, both, taken, count, ap length there, lens),
        λ honest b is.
            (let read = rw (c.in-Some.is, c.loop-buffer.invariant.unchanged honest, c.deref_mut.ensures.value) at (c.in_ok-end.ensures.read honest) in
            kept_text stood.0 c.read_behind.new.buffer _ c.in_ok-taken.taken c.in_ok-kept.kept rest
            ∙ full_text _ stood.0 c.loop-buffer.buffer.items c.read_behind.new.buffer _ _ _ (stood.3 honest) read all b is),
      );
    }
