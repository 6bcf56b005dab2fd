use Rattle.ks_commands.proofs.Prelude.{placed, ◌≡◌, ◌∙◌, ◌+◌, ◌++◌, ◌∷◌, ℕ, List, append_assoc, ap, arith, drop, flat_map, length, map, subst, sym, true, false, nat_lt, lt-ltb, is_in, Bool, refl, ◌||◌, Dep, BorrowedDep, seen_dep, borrowed_next, use_line, symbols_in}
use Rattle.std.specs.List.{filter}
use Rattle.ks_commands.proofs.Objects.{left_named, uses_left}
use Rattle.ks_commands.proofs.users.write_uses.Goals as goal
use Rattle.ks_commands.proofs.users.write_uses.Goals.{in-File, in-Config+then-is_asked+in_ok-write_use-in-Config, in-Config+else-is_asked}

-- one that was found is one, whatever is left
some_left : (b : Bool) (p : List ℕ × List ℕ) (ps : List (List ℕ × List ℕ)) → true ≡ (b || nat_lt 0 (length (p ∷ ps)))
some_left true p ps = refl
some_left false p ps = sym (lt-ltb 0 (length (p ∷ ps)) (omega arith))

pub loop-dep-preserved : goal.loop-dep-preserved
loop-dep-preserved c =
    let i = c.loop-dep.dep-index in
    let place = c.loop-dep.place.now in
    let symbols : List (List ℕ) = symbols_in c.args.symbols.now in
    let deps = map seen_dep c.args.file.now.deps.items in
    let line = use_line c.args.target.now in
    let text = c.loop-dep.text.items in
    let next = λ (e : Dep) (is : seen_dep c.dep-item.result ≡ e). subst (λ (ds : List BorrowedDep). drop i (map seen_dep ds) ≡ e ∷ drop (i + 1) (map seen_dep ds))
    c.deref-dep-items.ensures.value (borrowed_next c.deref-dep-items.result.now i c.dep-item.result e c.loop-dep-test.true c.dep-item.is is) in
    elim c.match-dep.branch [
      | in-File w ↦
          let left : uses_left symbols place deps i ≡ uses_left symbols w.in-File.path.now deps (i + 1)
          = ap (λ ds. filter (λ p. is_in symbols p.0) (placed place ds)) (next _ (ap seen_dep w.in-File.is)) in
          rw (w.text-is, w.place-is, w.is_user-is) (rw left at c.loop-dep.invariant)
      | in-Config+then-is_asked+in_ok-write_use-in-Config w ↦
          let rest = uses_left symbols place deps (i + 1) in
          let name = w.in-Config.name.bytes.now in
          let named : is_in symbols name ≡ true = ap (is_in symbols) (sym w.as_bytes-name.ensures.value) ∙ (sym w.is_asked.ensures ∙ w.if-is_asked.true) in
          let left = left_named symbols place name deps i true (next _ (ap seen_dep w.in-Config.is)) named in
          let old = rw left at c.loop-dep.invariant in
          rw (w.text-is, w.place-is, w.is_user-is) (record {
            lines =
                ap (λ t. t ++ flat_map line rest) w.in_ok-write_use-in-Config.ensures
                ∙ append_assoc text (line (w.as_bytes-name.result.now, place)) (flat_map line rest)
                ∙ ap (λ n. text ++ (line (n, place) ++ flat_map line rest)) w.as_bytes-name.ensures.value
                ∙ old.lines;
            is_user = some_left c.loop-dep.is_user (name, place) rest ∙ old.is_user;
          })
      | in-Config+else-is_asked w ↦
          let name = w.in-Config.name.bytes.now in
          let other : is_in symbols name ≡ false = ap (is_in symbols) (sym w.as_bytes-name.ensures.value) ∙ (sym w.is_asked.ensures ∙ w.if-is_asked.false) in
          let left = left_named symbols place name deps i false (next _ (ap seen_dep w.in-Config.is)) other in
          rw (w.text-is, w.place-is, w.is_user-is) (rw left at c.loop-dep.invariant)
    ]
