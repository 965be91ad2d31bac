-- The bytes of each answer (document 01, "What is written"). Each of these lines ends with a line feed.
use Rattle.std.specs.Prelude.{ℕ, suc, ◌-◌, cond, List, [], ◌∷◌, ◌++◌, eqb, length, replicate}
use Rattle.rights.specs.Bytes.{bytes}
use Rattle.rights.specs.PathText.{decimal}
use Rattle.rights.specs.Nodes.{Node, level_of, label_of}

-- a number in decimal, without leading zero; 20 digits are enough for every number of 64 bits
abbrev pub number : ℕ → List ℕ
number n = decimal 20 n

-- `)` and a line feed
abbrev pub closed : List ℕ
closed = bytes ")\n"

-- "A to D and `user`: `(ok)`."
abbrev pub ok_text : List ℕ
ok_text = bytes "(ok)\n"

-- "The answer is `(done S D)`"
abbrev pub done_text : ℕ → ℕ → List ℕ
done_text s d = bytes "(done " ++ (number s ++ (bytes " " ++ (number d ++ closed)))

-- `(refused N)`, which the program prints for a refusal
abbrev pub refused_text : ℕ → List ℕ
refused_text n = bytes "(refused " ++ (number n ++ closed)

-- `(end K)`
abbrev pub end_line : ℕ → List ℕ
end_line k = bytes "(end " ++ (number k ++ closed)

-- `(hit LEVEL L)`
abbrev pub hit_line : Node → List ℕ
hit_line n = bytes "(hit " ++ (number (level_of n) ++ (bytes " " ++ (label_of n ++ closed)))

-- `(none)`
abbrev pub none_line : List ℕ
none_line = bytes "(none)\n"

unfoldable pub hit_lines : List Node → List ℕ
hit_lines [] = []
hit_lines (n ∷ ns) = hit_line n ++ hit_lines ns

-- "`query`: `(hit LEVEL L)` in document order, `(end K)`, K hits." The hits are the nodes of the view that the path selects, those that its marks keep.
abbrev pub query_text : List Node → List ℕ
query_text hits = hit_lines hits ++ end_line (length hits)

-- "`find` now answers the first selected node in document order" (document 02, card 1), and "`(none)` if nothing is selected". The hits are as for `query`.
abbrev pub find_text : List Node → List ℕ
find_text [] = none_line
find_text (n ∷ hits) = hit_line n

-- `(root L)`
abbrev pub root_line : List ℕ → List ℕ
root_line l = bytes "(root " ++ (l ++ closed)

-- A view is printed node by node. AnswerTree has the same text by nested trees, and proofs/AnswerTreeLaws that they are equal.

-- before the label of a node of level l: a child of the root begins a line with `(child (`; any other node is parted by a space
abbrev pub opening : ℕ → List ℕ
opening l = cond (eqb l 1) (bytes "(child (") (bytes " (")

-- the trees of level m and deeper that are open below level l end with a `)` each, and the line too if a node of level 1 is next
abbrev pub closing : ℕ → ℕ → List ℕ
closing l m = replicate (l - m) 41 ++ cond (eqb m 1) closed []

-- the level of the next node; after the last node it is that of a next line
abbrev pub next_level : List Node → ℕ
next_level [] = 1
next_level (n ∷ ns) = level_of n

-- the nodes below the root
unfoldable pub child_lines : List Node → List ℕ
child_lines [] = []
child_lines (n ∷ ns) = opening (level_of n) ++ (label_of n ++ (closing (suc (level_of n)) (next_level ns) ++ child_lines ns))

-- "`view`: `(root L)`, a `(child TREE)` for each shown child, `(end K)`, K shown nodes; nothing but `(end 0)` if the root is hidden."
unfoldable pub view_text : List Node → List ℕ
view_text [] = end_line 0
view_text (r ∷ ns) = root_line (label_of r) ++ (child_lines ns ++ end_line (suc (length ns)))
