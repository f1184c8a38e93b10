-- `contact_graph::add::new_words` meets its contract: what each call ensures, put together. Assumes nothing.
use Rattle.contact_graph.specs.AddLaws.{request_words_lem}
use Rattle.contact_graph.proofs.add.new_words.Goals as goal

pub returns : goal.returns
returns c = request_words_lem _ _ c.requires c.body_word-body1.ensures c.body_word-body2.ensures c.bits_of-distance.ensures
