use Rattle.std.proofs.Common.{ℕ, ◌+◌, ◌*◌, ◌++◌, length}
use Rattle.vt_tree.specs.declared.expression.ChainKind.{ChainKind}
use Rattle.vt_tree.specs.declared.expression.ChainKind.TheVariants as chains
use Rattle.vt_grammar.specs.Form.{many}
use Rattle.vt_parse.specs.private.Levels.{below, ops_of}
use Rattle.vt_grammar.specs.Trees.{gathered, present, with_parts}
use Rattle.vt_grammar.specs.Grammar.{after_part, elsif, labels_begun, line, link, next_arg, next_item, opened, part}
use Rattle.vt_parse.proofs.Loops.{Continues}
use Rattle.vt_parse.proofs.Gathering.{Gathers, GathersFrom}
use Rattle.vt_parse.proofs.parser.Parser.+parser.Given as goal

-- a level of operators, from the tightest
abbrev level : ChainKind → ℕ
level chains.Term = 0
level chains.Sum = 1
level chains.Comp = 2
level chains.Conj = 3
level chains.Disj = 4
level chains.Expr = 5

abbrev pub decreases-parens : goal.decreases-parens
decreases-parens l = 100 * l.room + (0)

abbrev pub decreases-list : goal.decreases-list
decreases-list l = 100 * l.room + (0)

abbrev pub decreases-index : goal.decreases-index
decreases-index l = 100 * l.room + (0)

abbrev pub decreases-call : goal.decreases-call
decreases-call l = 100 * l.room + (0)

abbrev pub decreases-braces : goal.decreases-braces
decreases-braces l = 100 * l.room + (0)

abbrev pub decreases-doblock : goal.decreases-doblock
decreases-doblock l = 100 * l.room + (0)

abbrev pub decreases-iff : goal.decreases-iff
decreases-iff l = 100 * l.room + (0)

abbrev pub decreases-maybe_call : goal.decreases-maybe_call
decreases-maybe_call l = 100 * l.room + (1)

abbrev pub decreases-maybe_braces : goal.decreases-maybe_braces
decreases-maybe_braces l = 100 * l.room + (1)

abbrev pub decreases-block_where : goal.decreases-block_where
decreases-block_where l = 100 * l.room + (1)

abbrev pub decreases-named : goal.decreases-named
decreases-named l = 100 * l.room + (2)

abbrev pub decreases-primary : goal.decreases-primary
decreases-primary l = 100 * l.room + (3)

abbrev pub decreases-dot : goal.decreases-dot
decreases-dot l = 100 * l.room + (3)

abbrev pub decreases-part : goal.decreases-part
decreases-part l = 100 * l.room + (4)

abbrev pub decreases-parts : goal.decreases-parts
decreases-parts l = 100 * l.room + (5)

abbrev pub decreases-postfix : goal.decreases-postfix
decreases-postfix l = 100 * l.room + (6)

abbrev pub decreases-signed : goal.decreases-signed
decreases-signed l = 100 * l.room + (7)

abbrev pub decreases-unary : goal.decreases-unary
decreases-unary l = 100 * l.room + (8)

abbrev pub decreases-below : goal.decreases-below
decreases-below l = 100 * l.room + (10 + 6 * level l.kind)

abbrev pub decreases-link : goal.decreases-link
decreases-link l = 100 * l.room + (11 + 6 * level l.kind)

abbrev pub decreases-links : goal.decreases-links
decreases-links l = 100 * l.room + (12 + 6 * level l.kind)

abbrev pub decreases-chain : goal.decreases-chain
decreases-chain l = 100 * l.room + (13 + 6 * level l.kind)

abbrev pub decreases-maybe_comparison : goal.decreases-maybe_comparison
decreases-maybe_comparison l = 100 * l.room + (24)

abbrev pub decreases-comp : goal.decreases-comp
decreases-comp l = 100 * l.room + (25)

abbrev pub decreases-negated : goal.decreases-negated
decreases-negated l = 100 * l.room + (38)

abbrev pub decreases-negation : goal.decreases-negation
decreases-negation l = 100 * l.room + (39)

abbrev pub decreases-expr : goal.decreases-expr
decreases-expr l = 100 * l.room + (44)

abbrev pub decreases-labelled_arg : goal.decreases-labelled_arg
decreases-labelled_arg l = 100 * l.room + (45)

abbrev pub decreases-arg : goal.decreases-arg
decreases-arg l = 100 * l.room + (46)

abbrev pub decreases-next_arg : goal.decreases-next_arg
decreases-next_arg l = 100 * l.room + (47)

abbrev pub decreases-more_args : goal.decreases-more_args
decreases-more_args l = 100 * l.room + (48)

abbrev pub decreases-args : goal.decreases-args
decreases-args l = 100 * l.room + (49)

abbrev pub decreases-maybe_args : goal.decreases-maybe_args
decreases-maybe_args l = 100 * l.room + (50)

abbrev pub decreases-next_item : goal.decreases-next_item
decreases-next_item l = 100 * l.room + (45)

abbrev pub decreases-more_items : goal.decreases-more_items
decreases-more_items l = 100 * l.room + (46)

abbrev pub decreases-items : goal.decreases-items
decreases-items l = 100 * l.room + (47)

abbrev pub decreases-maybe_items : goal.decreases-maybe_items
decreases-maybe_items l = 100 * l.room + (48)

abbrev pub decreases-command : goal.decreases-command
decreases-command l = 100 * l.room + (50)

abbrev pub decreases-cond : goal.decreases-cond
decreases-cond l = 100 * l.room + (51)

abbrev pub decreases-rhs : goal.decreases-rhs
decreases-rhs l = 100 * l.room + (52)

abbrev pub decreases-assign : goal.decreases-assign
decreases-assign l = 100 * l.room + (53)

abbrev pub decreases-plain_simple : goal.decreases-plain_simple
decreases-plain_simple l = 100 * l.room + (54)

abbrev pub decreases-simple : goal.decreases-simple
decreases-simple l = 100 * l.room + (55)

abbrev pub decreases-modifier : goal.decreases-modifier
decreases-modifier l = 100 * l.room + (52)

abbrev pub decreases-maybe_modifier : goal.decreases-maybe_modifier
decreases-maybe_modifier l = 100 * l.room + (53)

abbrev pub decreases-stmt : goal.decreases-stmt
decreases-stmt l = 100 * l.room + (56)

abbrev pub decreases-maybe_stmt : goal.decreases-maybe_stmt
decreases-maybe_stmt l = 100 * l.room + (57)

abbrev pub decreases-next_line : goal.decreases-next_line
decreases-next_line l = 100 * l.room + (58)

abbrev pub decreases-lines : goal.decreases-lines
decreases-lines l = 100 * l.room + (59)

abbrev pub decreases-block : goal.decreases-block
decreases-block l = 100 * l.room + (60)

abbrev pub decreases-elsif : goal.decreases-elsif
decreases-elsif l = 100 * l.room + (61)

abbrev pub decreases-elsifs : goal.decreases-elsifs
decreases-elsifs l = 100 * l.room + (62)

abbrev pub decreases-branches : goal.decreases-branches
decreases-branches l = 100 * l.room + (63)

abbrev pub decreases-otherwise : goal.decreases-otherwise
decreases-otherwise l = 100 * l.room + (61)

abbrev pub decreases-maybe_otherwise : goal.decreases-maybe_otherwise
decreases-maybe_otherwise l = 100 * l.room + (62)

abbrev pub invariant-links-links : goal.invariant-links-links
invariant-links-links l = Continues (many (link (ops_of l.kind) (below l.kind (opened l.room)))) l.initial.self l.self l.found

abbrev pub decreases-links-links : goal.decreases-links-links
decreases-links-links l = length l.self

abbrev pub invariant-parts-parts : goal.invariant-parts-parts
invariant-parts-parts l = GathersFrom (with_parts l.initial.whole) after_part (part (opened l.room)) (l.initial.left, l.initial.fresh) (l.left, l.fresh) l.initial.self l.self l.whole

abbrev pub decreases-parts-parts : goal.decreases-parts-parts
decreases-parts-parts l = length l.self

abbrev pub invariant-more_args-more : goal.invariant-more_args-more
invariant-more_args-more l = GathersFrom (gathered l.initial.all) labels_begun (next_arg (opened l.room)) l.initial.begun l.begun l.initial.self l.self l.all

abbrev pub decreases-more_args-more : goal.decreases-more_args-more
decreases-more_args-more l = length l.self

abbrev pub invariant-more_items-more : goal.invariant-more_items-more
invariant-more_items-more l = Gathers (λ vs. l.initial.all ++ vs) (next_item (opened l.room)) l.initial.self l.self l.all

abbrev pub decreases-more_items-more : goal.decreases-more_items-more
decreases-more_items-more l = length l.self

abbrev pub invariant-lines-lines : goal.invariant-lines-lines
invariant-lines-lines l = Gathers (λ vs. l.initial.all ++ present vs) (line (opened l.room)) l.initial.self l.self l.all

abbrev pub decreases-lines-lines : goal.decreases-lines-lines
decreases-lines-lines l = length l.self

abbrev pub invariant-elsifs-arms : goal.invariant-elsifs-arms
invariant-elsifs-arms l = Gathers (λ vs. l.initial.all ++ vs) (elsif (opened l.room)) l.initial.self l.self l.all

abbrev pub decreases-elsifs-arms : goal.decreases-elsifs-arms
decreases-elsifs-arms l = length l.self
