-- What one more pair of lines does to what several come to.
use Rattle.ks_output.proofs.Prelude.{cond-true, cond-false, ends_with, module_end, order, is_eq, Kind, ◌≡◌, ◌⊎◌, inl, inr, ℕ, ◌+◌, List, [], ◌∷◌, Ok, Some, None, true, false, Bool, cond, ◌&&◌, refl, ap, sym, ◌∙◌, Configuration, arith, length, drop, nat_eq, starts_with, is_title}
use Rattle.std.specs.FinMap as map
use Rattle.std.specs.Prelude.{Err, Result, is_some, ◌||◌, if◌then◌else◌}
use Rattle.ks_output.proofs.SeenLemmas.{entered}
use Rattle.ks_output.specs.Written.{title_in, conf_heading, heading_of, bodies, given_by, explained, with_kind, with_entry, with_pairs, chain}
use Rattle.ks_output.specs.declared.written.WrittenError.{WrittenError}
use Rattle.ks_output.specs.declared.written.WrittenError.TheVariants as fault

pub undefined : (n : ℕ) (m : Configuration) (l : List ℕ) (ls : List (List ℕ)) → with_pairs n m (l ∷ ls) [] ≡ Err (fault.Undefined n)
unfolding with_pairs
undefined n m l ls = refl

pub undeclared : (n : ℕ) (m : Configuration) (h : List ℕ) (hs : List (List ℕ)) → with_pairs n m [] (h ∷ hs) ≡ Err (fault.Undeclared n)
unfolding with_pairs
undeclared n m h hs = refl

pub ended : (n : ℕ) (m : Configuration) → with_pairs n m [] [] ≡ Ok m
unfolding with_pairs
ended n m = refl

pub goes_on : (n : ℕ) (m later : Configuration) (l h : List ℕ) (ls hs : List (List ℕ)) → with_entry n m h (given_by l) ≡ Ok later
    → with_pairs n m (l ∷ ls) (h ∷ hs) ≡ with_pairs (n + 1) later ls hs
unfolding with_pairs
goes_on n m later l h ls hs e = ap (λ r. chain r (λ after. with_pairs (n + 1) after ls hs)) e

pub stops : (n : ℕ) (m : Configuration) (l h : List ℕ) (ls hs : List (List ℕ)) (x : WrittenError) → with_entry n m h (given_by l) ≡ Err x
    → with_pairs n m (l ∷ ls) (h ∷ hs) ≡ Err x
unfolding with_pairs
stops n m l h ls hs x e = ap (λ r. chain r (λ after. with_pairs (n + 1) after ls hs)) e

-- a pair that is refused, or for which memory is wanting
pub taken_wrong : (n : ℕ) (m : Configuration) (l h : List ℕ) (ls hs : List (List ℕ)) (all : Result Configuration WrittenError) (memory x : WrittenError)
    → with_pairs n m (l ∷ ls) (h ∷ hs) ≡ all → (x ≡ memory) ⊎ (with_entry n m h (given_by l) ≡ Err x) → (x ≡ memory) ⊎ (all ≡ Err x)
taken_wrong n m l h ls hs all memory x is (inl e) = inl e
taken_wrong n m l h ls hs all memory x is (inr e) = inr (sym is ∙ stops n m l h ls hs x e)

or-false : (b : Bool) → (b || false) ≡ b
or-false true = refl
or-false false = refl

-- headings
pick : (a b d : Bool) (x : List ℕ × List ℕ) → a ≡ true → b ≡ true → d ≡ true → cond (a && b && d) (Some x) None ≡ Some x
pick a b d x e f g = grind arith

pass_second : (a b d : Bool) (x : List ℕ × List ℕ) → b ≡ false → cond (a && b && d) (Some x) None ≡ None
pass_second a b d x e = grind arith

pass_third : (a b d : Bool) (x : List ℕ × List ℕ) → d ≡ false → cond (a && b && d) (Some x) None ≡ None
pass_third a b d x e = grind arith

pub unheaded_auto : (auto header title : List ℕ) → title ≡ title_in auto → starts_with nat_eq auto (conf_heading title) ≡ false → bodies auto header ≡ None
unfolding bodies
unheaded_auto auto header title is e = pass_second (is_title (title_in auto)) _ _ _ (ap (λ t. starts_with nat_eq auto (conf_heading t)) (sym is) ∙ e)

pub unheaded_header : (auto header title : List ℕ) → title ≡ title_in auto → starts_with nat_eq header (heading_of title header) ≡ false → bodies auto header ≡ None
unfolding bodies
unheaded_header auto header title is e =
    pass_third (is_title (title_in auto)) (starts_with nat_eq auto (conf_heading (title_in auto))) _ _ (ap (λ t. starts_with nat_eq header (heading_of t header)) (sym is) ∙ e)

headed_by : (auto header : List ℕ) → is_title (title_in auto) ≡ true → starts_with nat_eq auto (conf_heading (title_in auto)) ≡ true
    → starts_with nat_eq header (heading_of (title_in auto) header) ≡ true
    → bodies auto header ≡ Some (drop (length (conf_heading (title_in auto))) auto, drop (length (heading_of (title_in auto) header)) header)
unfolding bodies
headed_by auto header e f g = pick _ _ _ _ e f g

pub headed : (auto header title : List ℕ) → title ≡ title_in auto → is_title title ≡ true → starts_with nat_eq auto (conf_heading title) ≡ true
    → starts_with nat_eq header (heading_of title header) ≡ true
    → bodies auto header ≡ Some (drop (length (conf_heading title)) auto, drop (length (heading_of title header)) header)
headed auto header title is e f g =
    headed_by auto header (ap is_title (sym is) ∙ e) (ap (λ t. starts_with nat_eq auto (conf_heading t)) (sym is) ∙ f)
    (ap (λ t. starts_with nat_eq header (heading_of t header)) (sym is) ∙ g)
    ∙ ap (λ t. Some (drop (length (conf_heading t)) auto, drop (length (heading_of t header)) header)) (sym is)

-- the first pair, by what it comes to
pub first : (l h name value : List ℕ) (k : Kind) (ls hs : List (List ℕ)) → given_by l ≡ Some (name, value)
    → explained name value h ≡ Some k → with_pairs 5 map.empty (l ∷ ls) (h ∷ hs) ≡ with_pairs 6 (map.insert map.empty name (k, value)) ls hs
unfolding with_entry with_pairs
first l h name value k ls hs given is =
    goes_on 5 map.empty (map.insert map.empty name (k, value)) l h ls hs
    (ap (with_entry 5 map.empty h) given ∙ cond-false _ _ _ (ap is_some (map.get-empty order name)) ∙ ap (with_kind 5 map.empty name value) is)

pub first_unexplained : (l h name value : List ℕ) (ls hs : List (List ℕ)) → given_by l ≡ Some (name, value)
    → explained name value h ≡ None → with_pairs 5 map.empty (l ∷ ls) (h ∷ hs) ≡ Err (if ends_with nat_eq name module_end then fault.ModuleSymbol 5 else fault.Unexplained 5)
unfolding with_entry with_pairs
first_unexplained l h name value ls hs given is =
    stops 5 map.empty l h ls hs (if ends_with nat_eq name module_end then fault.ModuleSymbol 5 else fault.Unexplained 5)
    (ap (with_entry 5 map.empty h) given ∙ cond-false _ _ _ (ap is_some (map.get-empty order name)) ∙ ap (with_kind 5 map.empty name value) is)

-- a second one
abbrev none : Configuration
none = map.empty

holds : (name x : List ℕ) (s : Kind × List ℕ) (b : Bool) → is_eq (order x name) ≡ b → map.contains_key (map.insert none name s) x ≡ b
holds name x s b is = entered map.empty name s x ∙ ap (λ c. c || map.contains_key none x) is ∙ ap (λ c. b || c) (ap is_some (map.get-empty order x)) ∙ or-false b

pub second : (l h name value before : List ℕ) (s : Kind × List ℕ) (k : Kind) (ls hs : List (List ℕ)) → given_by l ≡ Some (name, value)
    → is_eq (order name before) ≡ false → explained name value h ≡ Some k
    → with_pairs 6 (map.insert map.empty before s) (l ∷ ls) (h ∷ hs) ≡ with_pairs 7 (map.insert (map.insert map.empty before s) name (k, value)) ls hs
unfolding with_entry with_pairs
second l h name value before s k ls hs given other is =
    let m = map.insert map.empty before s in
    goes_on 6 m (map.insert m name (k, value)) l h ls hs
    (ap (with_entry 6 m h) given ∙ cond-false _ _ _ (holds before name s false other) ∙ ap (with_kind 6 m name value) is)

pub second_twice : (l h name value : List ℕ) (s : Kind × List ℕ) (ls hs : List (List ℕ)) → given_by l ≡ Some (name, value)
    → is_eq (order name name) ≡ true → with_pairs 6 (map.insert map.empty name s) (l ∷ ls) (h ∷ hs) ≡ Err (fault.Twice 6)
unfolding with_entry with_pairs
second_twice l h name value s ls hs given same =
    let m = map.insert map.empty name s in
    stops 6 m l h ls hs (fault.Twice 6) (ap (with_entry 6 m h) given ∙ cond-true _ _ _ (holds name name s true same))
