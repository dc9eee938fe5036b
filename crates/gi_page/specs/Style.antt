-- What is the same on each page.
use Rattle.std.specs.Prelude.{ℕ, List, codes}

-- what stands before the title: nothing is loaded, and no script runs
unfoldable pub head : List ℕ
head = codes "<!DOCTYPE html>\n<html lang=\"en\">\n<head>\n<meta charset=\"utf-8\">\n<meta name=\"viewport\" content=\"width=device-width, initial-scale=1\">\n<meta name=\"color-scheme\" content=\"light dark\">\n<meta http-equiv=\"Content-Security-Policy\" content=\"default-src 'none';style-src 'unsafe-inline'\">\n<title>"

-- the style sheet, up to the text at the foot of each printed page: light and dark, a narrow page, print
unfoldable pub style : List ℕ
style = codes ":root{--bg:#fff;--ink:#1c1c1c;--dim:#565b60;--rule:#d5d8db;--soft:#f0f2f4;--fill:#b9d9ee;--edge:#0a5c91;--cut:#a34100;--peers:#6a2c91;--on:#fff}\n@media (prefers-color-scheme:dark){:root{--bg:#14171a;--ink:#d9dcdf;--dim:#9da5ad;--rule:#353b41;--soft:#20262b;--fill:#1b4563;--edge:#7cc0f2;--cut:#ff9d5c;--peers:#d2a8ff;--on:#14171a}}\n*{box-sizing:border-box}\nbody{margin:0 auto;padding:16px 20px 40px;max-width:1320px;background:var(--bg);color:var(--ink);font:14px/1.4 \"Segoe UI\",Roboto,\"Helvetica Neue\",Arial,\"Liberation Sans\",sans-serif}\nh1{font-size:24px;line-height:1.2;margin:0 0 6px}\nh2{font-size:17px;margin:22px 0 6px}\nh1 span,h2 span{font-weight:400;font-size:14px;color:var(--dim)}\np{margin:0 0 4px}\np span{white-space:nowrap}\n.key{margin-top:8px}\n.note{border-left:4px solid var(--cut);padding-left:8px}\n.dim,caption{color:var(--dim);font-size:13px}\ncaption{text-align:left;padding-bottom:4px}\nnav{margin:8px 0 10px}\nnav a{margin-right:12px}\na{color:var(--edge)}\n.scroll{overflow-x:auto}\ntable{border-collapse:separate;border-spacing:0;font-size:13px;font-variant-numeric:tabular-nums}\nth,td{padding:3px 9px;text-align:right;white-space:nowrap;border-bottom:1px solid var(--rule)}\nthead th{border-bottom:1px solid var(--ink);vertical-align:bottom;background:var(--bg)}\ntbody th{font-weight:400}\n[rowspan]{vertical-align:top}\ntfoot th,tfoot td{border-bottom:0;font-weight:600}\ntbody:last-of-type tr:last-child>*,tbody:last-of-type [rowspan]{border-bottom:1px solid var(--ink)}\n.t{text-align:left}\n.strong{font-weight:600}\n.cut{color:var(--cut);font-weight:600}\ntd .in{margin:-2px 0}\n.codes b+b{margin-left:8px}\n.codes b{font:13px Consolas,Menlo,\"DejaVu Sans Mono\",\"Liberation Mono\",monospace;display:inline-block;min-width:var(--code)}\ntbody tr:hover>*{background:var(--soft)}\n.chart{display:block;width:100%;height:auto;font-size:13px}\n.in{vertical-align:middle}\n.void{position:absolute;width:0;height:0}\ntext{fill:var(--ink)}\n.right{text-anchor:end}\n.middle{text-anchor:middle;font-size:12px}\ntext.dim{fill:var(--dim);font-size:inherit}\n.over{paint-order:stroke;stroke:var(--soft);stroke-width:6}\npath{fill:none}\n.grid{stroke:var(--rule)}\n.zero{stroke:var(--ink)}\npath.turn{stroke:var(--dim);stroke-dasharray:1 3}\n.reign{stroke:var(--edge);stroke-width:3}\n.none{stroke:var(--dim);stroke-dasharray:3 3}\n.lead{stroke:var(--dim);stroke-width:1}\n.hatch,.rim{stroke:var(--cut)}\n.force{fill:var(--fill)}\n.blank{fill:var(--soft)}\n.byown{fill:url(#own)}\n.bypeer{fill:url(#peer)}\n.force.rim{stroke:var(--edge)}\n.edge{stroke:var(--edge);stroke-width:3}\n.processed{stroke:var(--ink)}\n.nominated{stroke:var(--ink);stroke-width:2;stroke-dasharray:8 6}\n.peers{stroke:var(--peers);stroke-width:5;stroke-linecap:round;stroke-dasharray:0 14;stroke-dashoffset:-11}\n.net{stroke:var(--ink);stroke-width:3}\n.tips path{fill:transparent}\n.tips path:hover{fill:var(--ink);fill-opacity:.1}\n.bar{fill:var(--fill);stroke:var(--edge)}\n.bar.rim{stroke:var(--edge)}\n.lost{fill:var(--cut)}\n.open{stroke:var(--dim)}\n.strip{list-style:none;display:flex;flex-wrap:wrap;gap:2px;margin:0 0 6px;padding:0}\n.strip li{width:28px;text-align:center;font-size:12px;line-height:15px;border:2px solid transparent;color:var(--dim)}\n.strip b{display:block;font-size:13px}\ni{display:inline-block;width:16px;height:12px;vertical-align:-1px}\n.strip .confirmed,i.confirmed{background:var(--edge);border:2px solid var(--edge);color:var(--on)}\n.strip .unsaved,i.unsaved{border:4px double var(--ink);line-height:13px;color:var(--ink)}\n.strip .frozen,i.frozen{border:2px dashed var(--ink);color:var(--ink)}\n@media (min-width:1100px){.two{display:grid;grid-template-columns:1fr 1fr;gap:0 32px}.scroll{overflow:visible}thead{position:sticky;top:0}}\n@media (max-width:600px){body{padding:12px 8px}.wide{display:none}.chart,.middle{font-size:20px}.codes b{display:block}.codes b+b{margin:0}table,.codes b{font-size:12px}th,td{padding:3px 4px}#s-hours+.scroll :is(th,td){padding:3px 2px}.bars{width:80px}}\n@page{size:A4 landscape;margin:12mm 12mm 16mm;@bottom-right{font:10px sans-serif;content:counter(page) \" / \" counter(pages)}}\n@media print{:root{--bg:#fff;--ink:#000;--dim:#444;--rule:#bbb;--soft:#eee;--fill:#d4d4d4;--edge:#666;--cut:#000;--peers:#000;--on:#fff}\n*{print-color-adjust:exact}\nbody{padding:0;max-width:none;font-size:12px}table,.dim,caption{font-size:11px}.codes b{font-size:11px}th,td{padding:2px 7px}.bars{height:15px}\n.two{display:grid;grid-template-columns:1fr 1fr;gap:0 24px}.scroll{overflow:visible}thead{position:static}tfoot{display:table-row-group}\ntr,svg,li,.two{break-inside:avoid}h2,caption{break-after:avoid}.tips,nav{display:none}}\n@page{@bottom-left{font:10px sans-serif;content:\""

-- links to the parts of the page
unfoldable pub navigation : List ℕ
navigation = codes "<nav><a href=\"#s-IM\">IM</a> <a href=\"#s-MI\">MI</a> <a href=\"#s-net\">Net flow</a> <a href=\"#s-cycles\">Cycles</a> <a href=\"#s-cuts\">Cuts</a> <a href=\"#s-hours\">By hour</a> <a href=\"#s-pairs\">Pairs</a></nav>\n"

-- what ends a page
unfoldable pub page_end : List ℕ
page_end = codes "</main>\n</body>\n</html>\n"
