use Rattle.ks_tree.proofs.Prelude.{Some, None, sym, rules, arith}
use Rattle.ks_tree.proofs.Stored.{found, some_same}
use Rattle.ks_tree.proofs.memory.MemoryTreeTree.read.Goals as goal

pub returns-in_default-clause-found : goal.returns-in_default-clause-found
returns-in_default-clause-found c = λ honest. sym (found _ _ _ _ c.self.view_is c.in_default.ensures.value)

pub returns-in_default-clause-small : goal.returns-in_default-clause-small
returns-in_default-clause-small c = λ honest b at. cc (found _ c.args.self.now _ None c.self.view_is c.in_default.ensures.value)

pub returns-then-len-gt-MAX_BYTES-clause-too_large : goal.returns-then-len-gt-MAX_BYTES-clause-too_large
returns-then-len-gt-MAX_BYTES-clause-too_large c = λ honest large.
    (c.in-Some.bytes.now.items, found _ _ _ (Some c.in-Some.bytes.now) c.self.view_is c.in-Some.ensures.value, omega arith)

pub returns-clause-found : goal.returns-clause-found
returns-clause-found c = let is = found _ c.args.self.now _ (Some c.in-Some.bytes.now) c.self.view_is c.in-Some.ensures.value in search rules

pub returns-clause-small : goal.returns-clause-small
returns-clause-small c = let is = found _ c.args.self.now _ (Some c.in-Some.bytes.now) c.self.view_is c.in-Some.ensures.value in search (rules, some_same)
