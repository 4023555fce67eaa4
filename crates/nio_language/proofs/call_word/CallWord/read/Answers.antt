use Rattle.std.proofs.Common.{rules, tests, sym, ◌∙◌}
use Rattle.std.specs.Str.{bytes_eq}
use Rattle.std.proofs.lemmas.Iterator.{YieldsList-from_slice}
use Rattle.std.proofs.lemmas.Iterator.Adapters.{option_map_id}
use Rattle.std.proofs.lemmas.Iterator.Consumers.{YieldsList-from_copied}
use Rattle.std.proofs.lemmas.Iterator.Search.{find_from_yields_List}
use Rattle.nio_language.specs.CallWords.{call_word_text}
use Rattle.nio_language.specs.declared.call_word.TheConstants.{CALL_WORDS}
use Rattle.nio_language.proofs.CallWordTable.{reads_call_word}
use Rattle.nio_language.proofs.call_word.CallWord.read.Goals as goal

pub returns : goal.returns
returns c =
    let text = c.args.text.now in
    let found = find_from_yields_List (λ w. bytes_eq (call_word_text w) text) _ _ c.find.result c.find.ensures.ran
    (YieldsList-from_copied (YieldsList-from_slice CALL_WORDS cc)) (λ x b q k. search (rules, tests)) in
    reads_call_word text c.find.result (sym (option_map_id c.find.result) ∙ found)
