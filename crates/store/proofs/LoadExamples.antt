-- What the call that loads the solver's file answers to some documents, in a store that has no root and passes 13; computed.
use Prim.Native.Nat.{ℕ, ◌≤◌, ◌<◌}
use mathlib.Core.Path.{◌≡◌}
use mathlib.Core.Bool.{true}
use mathlib.Core.List.{List, [], ◌∷◌}
use borrow.Author.Tests.{lt-leb, le-ltb, lt-ltb}
use lib.ListN.{length}
use Rattle.rights.specs.Bytes.{bytes, digit_byte, run}
use Rattle.rights.specs.Held.{node_bytes, table_bytes}
use Rattle.rights.specs.Labels.{label_byte, same_label, folded}
use Rattle.rights.specs.Nodes.{node}
use Rattle.rights.specs.Policy.{some}
use Rattle.rights.specs.Table.{capacity}
use Rattle.forms.specs.Part.{label_end}
use Rattle.answers.specs.Answer.{ok_text}
use Rattle.xml.specs.Document.{blank_byte, name_start}
use Rattle.xml.specs.How.Tokens.{is_document, document_nodes, lex, lex_after, tokens_from, nested, nested_in, matched_in, same_bytes, token_nodes}
use Rattle.lines.specs.Outcome.{says, refuses}
use Rattle.lines.specs.Refusal.{checked}
use Rattle.lines.specs.State.{stage_c, stage_d, stage, with_stage, store_ok}
use Rattle.store.specs.LoadXml.{load_xml}

module _ (s t : List ℕ) (ok : store_ok s t ≡ true) (early : stage s < stage_c) where
  -- the stage afterwards: C for a root alone, else D
  root_alone_lem : 1 ≤ capacity (length t) → load_xml s t (bytes "<a></a>") 5
      ≡ record { reply = says ok_text; state = with_stage stage_c s; table = table_bytes (length t) (node_bytes (node 0 (bytes "a")) ∷ []) }
  unfolding load_xml checked is_document document_nodes lex lex_after tokens_from nested nested_in matched_in same_bytes token_nodes label_end run blank_byte name_start digit_byte label_byte some same_label folded
  root_alone_lem h = rw (ok, lt-leb 2 (stage s) early, le-ltb (capacity (length t)) 1 h)

  with_leaves : 3 ≤ capacity (length t) → load_xml s t (bytes "<a> x <b/></a>") 5
      ≡ record {
        reply = says ok_text;
        state = with_stage stage_d s;
        table = table_bytes (length t) (node_bytes (node 0 (bytes "a")) ∷ node_bytes (node 1 (bytes "x")) ∷ node_bytes (node 1 (bytes "b")) ∷ []);
      }
  unfolding load_xml checked is_document document_nodes lex lex_after tokens_from nested nested_in matched_in same_bytes token_nodes label_end run blank_byte name_start digit_byte label_byte some same_label folded
  with_leaves h = rw (ok, lt-leb 2 (stage s) early, le-ltb (capacity (length t)) 3 h)

  -- 14 comes before 9, and 9 before 11 and 12, whatever room there is
  mismatched : (room : ℕ) → (load_xml s t (bytes "<a><RESTRICTED></a></RESTRICTED>") room).reply ≡ refuses 14
  unfolding load_xml checked is_document document_nodes lex lex_after tokens_from nested nested_in matched_in same_bytes token_nodes label_end run blank_byte name_start digit_byte label_byte some same_label folded
  mismatched room = rw (ok, lt-leb 2 (stage s) early)

  banned : (room : ℕ) → (load_xml s t (bytes "<a>RESTRICTED</a>") room).reply ≡ refuses 9
  unfolding load_xml checked is_document document_nodes lex lex_after tokens_from nested nested_in matched_in same_bytes token_nodes label_end run blank_byte name_start digit_byte label_byte some same_label folded
  banned room = rw (ok, lt-leb 2 (stage s) early)

  -- the root counts
  too_many : (room : ℕ) → capacity (length t) < 2 → (load_xml s t (bytes "<a><b/></a>") room).reply ≡ refuses 11
  unfolding load_xml checked is_document document_nodes lex lex_after tokens_from nested nested_in matched_in same_bytes token_nodes label_end run blank_byte name_start digit_byte label_byte some same_label folded
  too_many room h = rw (ok, lt-leb 2 (stage s) early, lt-ltb (capacity (length t)) 2 h)

  -- 10: levels 0 to 11 are taken, level 12 is not
  too_deep_lem : (room : ℕ) → (load_xml s t (bytes "<a><a><a><a><a><a><a><a><a><a><a><a><a/></a></a></a></a></a></a></a></a></a></a></a></a>") room).reply ≡ refuses 10
  unfolding load_xml checked is_document document_nodes lex lex_after tokens_from nested nested_in matched_in same_bytes token_nodes label_end run blank_byte name_start digit_byte label_byte some same_label folded
  too_deep_lem room = rw (ok, lt-leb 2 (stage s) early)

  short : 12 ≤ capacity (length t) → (load_xml s t (bytes "<a><a><a><a><a><a><a><a><a><a><a><a/></a></a></a></a></a></a></a></a></a></a></a>") 4).reply ≡ refuses 12
  unfolding load_xml checked is_document document_nodes lex lex_after tokens_from nested nested_in matched_in same_bytes token_nodes label_end run blank_byte name_start digit_byte label_byte some same_label folded
  short h = rw (ok, lt-leb 2 (stage s) early, le-ltb (capacity (length t)) 12 h)
