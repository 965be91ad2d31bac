-- Documents and what is none, computed.
use mathlib.Core.Path.{◌≡◌, refl}
use mathlib.Core.Bool.{true, false}
use mathlib.Core.List.{[], ◌∷◌}
use Rattle.rights.specs.Bytes.{bytes, digit_byte, run}
use Rattle.rights.specs.Labels.{label_byte}
use Rattle.rights.specs.Nodes.{node}
use Rattle.forms.specs.Part.{label_end}
use Rattle.xml.specs.Document.{blank_byte, name_start}
use Rattle.xml.specs.How.Tokens.{is_document, document_nodes, lex, lex_after, tokens_from, nested, nested_in, matched_in, same_bytes, token_nodes}

texts_are_leaves : document_nodes (bytes "\n<a> x<b/>y </a>") ≡ node 0 (bytes "a") ∷ node 1 (bytes "x") ∷ node 1 (bytes "b") ∷ node 1 (bytes "y") ∷ []
unfolding document_nodes lex lex_after tokens_from token_nodes label_end run blank_byte name_start digit_byte label_byte
texts_are_leaves = refl

taken : is_document (bytes "\n<a> x<b/>y </a>") ≡ true
unfolding is_document lex lex_after tokens_from nested nested_in matched_in same_bytes label_end run blank_byte name_start digit_byte label_byte
taken = refl

mismatched : is_document (bytes "<a><b></a></b>") ≡ false
unfolding is_document lex lex_after tokens_from nested nested_in matched_in same_bytes label_end run blank_byte name_start digit_byte label_byte
mismatched = refl

two_roots : is_document (bytes "<a/><b/>") ≡ false
unfolding is_document lex lex_after tokens_from nested nested_in matched_in same_bytes label_end run blank_byte name_start digit_byte label_byte
two_roots = refl
