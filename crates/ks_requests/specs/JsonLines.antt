-- Answers as lines of JSON (RFC 8259), for scripts: the object of each, in the text that the kit's `json` has for it.
use Rattle.std.specs.Prelude.{ℕ, List, ◌++◌, codes, decimal, encode_utf8_all, map, Result, Ok, Err}
use Rattle.json.specs.Json.{Items, Json, Members, array, item, member, no_items, no_members, number, object, string}
use Rattle.json.specs.Print.{print}
use Rattle.json.specs.Tree.{json_tokens}
use Rattle.json.specs.Value.{items_of}
use Rattle.ks_engine.specs.declared.error.EngineError.{EngineError}
use Rattle.ks_engine.specs.declared.explaining.Cause.{Cause}
use Rattle.ks_engine.specs.declared.explaining.Explanation.{Explanation}
use Rattle.ks_engine.specs.declared.query.Limit.{Limit}
use Rattle.ks_engine.specs.declared.query.Limit.TheVariants.{First, All}
use Rattle.ks_engine.specs.declared.staleness.Verdict.{Verdict}
use Rattle.ks_engine.specs.declared.staleness.Verdict.TheVariants as verdict
use Rattle.ks_requests.specs.declared.request.OutputFormat.{OutputFormat}
use Rattle.ks_requests.specs.declared.request.OutputFormat.TheVariants as format
use Rattle.ks_requests.specs.Faults.{fault_text}
use Rattle.ks_requests.specs.Replies.{answer_line, explanation_lines}

-- a character for each byte, the one with that number, in UTF-8
abbrev pub characters : List ℕ → List ℕ
characters bytes = encode_utf8_all bytes

-- a word for each verdict
unfoldable pub verdict_word : Verdict → List ℕ
verdict_word verdict.Fresh = codes "fresh"
verdict_word (verdict.Changed name) = codes "stale"
verdict_word verdict.NoCommandFile = codes "no-command-file"
verdict_word verdict.Unnumbered = codes "not-numbered"
verdict_word verdict.Ahead = codes "generation-ahead"

-- a name alone, as a verdict has it
abbrev pub name_value : List ℕ → Json
name_value name = object (member (codes "name") (string (characters name)) no_members)

-- a name that was touched, with the file after which it stands and the number of its stamp
abbrev pub cause_value : Cause → Json
cause_value c = object (member (codes "name") (string (characters c.name)) (member (codes "place") (string (characters c.place))
    (member (codes "stamp") (number (decimal c.generation)) no_members)))

-- the name of a verdict that has one
abbrev pub first_values : Verdict → Items
first_values (verdict.Changed name) = item (name_value name) no_items
first_values _ = no_items

-- the causes, as far as they were asked for
abbrev pub asked_values : Limit → Explanation → Items
asked_values First e = first_values e.verdict
asked_values All e = items_of (map cause_value e.causes.items)

-- an object with its verdict, its causes and what stands after them
abbrev pub value_of : List ℕ → List ℕ → Items → Members → Json
value_of target word causes more =
    object (member (codes "target") (string (characters target)) (member (codes "verdict") (string word) (member (codes "causes") (array causes) more)))

-- an answer: a verdict, or a refusal with the text of that
abbrev pub answer_value : Limit → List ℕ → Result Explanation EngineError → Json
answer_value limit target (Ok e) = value_of target (verdict_word e.verdict) (asked_values limit e) no_members
answer_value limit target (Err e) =
    value_of target (codes "refused") no_items (member (codes "refused") (string (characters (fault_text e))) no_members)

-- the line of an answer
unfoldable pub json_answer : Limit → List ℕ → Result Explanation EngineError → List ℕ
json_answer limit target answer = print (json_tokens (answer_value limit target answer)) ++ codes "\n"

-- what is printed of an object, in either form
abbrev pub answer_in : OutputFormat → Limit → List ℕ → Result Explanation EngineError → List ℕ
answer_in format.Text limit target answer = answer_line (explanation_lines limit) target answer
answer_in format.Json limit target answer = json_answer limit target answer
